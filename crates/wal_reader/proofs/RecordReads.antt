-- Laws of what reading a record answers, by the groups of its checks.
use Rattle.std.proofs.Common.{◌≡◌, ℕ, ◌+◌, ◌-◌, ◌*◌, ◌/◌, ◌%◌, ◌^◌, ◌<◌, ◌≤◌, Bool, List, [], ◌++◌, take, drop, Option, Some, None, Result, Ok, Err, refl, sym, ap, subst, ◌∙◌, inl, inr, arith}
use Rattle.std.specs.Prelude.{IfOk}
use Rattle.std.specs.Int.{w64}
use Rattle.std.specs.List.{slice_index}
use Rattle.std.proofs.lemmas.Bool.{cases_lt}
use Rattle.std.proofs.lemmas.List.{get_or-take, take-take}
use Rattle.byte_position.specs.Geometry.{IsSegmentSize}
use Rattle.byte_position.specs.Position.{position_of, address_of}
use Rattle.byte_position.proofs.HeaderSizes.{header_size_bounds}
use Rattle.byte_position.proofs.Pages.{position_of-next_page}
use Rattle.byte_position.proofs.Rising.{position_of-le_self}
use Rattle.byte_position.proofs.Words.{position_of-mod_word}
use Rattle.wal_types.specs.declared.lsn.Lsn.{Lsn}
use Rattle.wal_types.specs.declared.record.Record.{Record}
use Rattle.wal_record.specs.declared.fault.RecErr.{RecErr}
use Rattle.wal_record.specs.declared.fault.RecErr.TheVariants.{Memory, Malformed, Compressed}
use Rattle.wal_spelling.specs.Numbers.{number_at}
use Rattle.wal_record.specs.Reading.{reading_of}
use Rattle.wal_page.specs.Page.{first_fault, header_size, timeline_of}
use Rattle.wal_reader.specs.declared.page_cursor.PageCursor.{PageCursor}
use Rattle.wal_reader.specs.declared.record_extent.RecordExtent.{RecordExtent}
use Rattle.wal_reader.specs.declared.found.Answer.{Answer}
use Rattle.wal_reader.specs.declared.found.FoundRecord.{FoundRecord}
use Rattle.wal_reader.specs.declared.record_place.RecordPlace.{RecordPlace}
use Rattle.wal_reader.specs.declared.read_failure.ReadFailure.{ReadFailure}
use Rattle.wal_reader.specs.declared.read_failure.ReadFailure.TheVariants as failures
use Rattle.wal_reader.specs.Pages.{IsPage, Pages, bytes_from}
use Rattle.wal_reader.specs.PageCursor.{Crosses, HasGathered, HoldsPassed, StandsIn}
use Rattle.wal_reader.specs.Decodes.{next_position, page_of_byte, place_behind, rows_of_pages, crc_rows, header_rows, rest_rows}
use Rattle.wal_reader.specs.ReadAt.{found_or}
use Rattle.wal_reader.specs.RecordRead.{GoesOn, IsRead, behind_read, said_of}
use Rattle.wal_reader.specs.RecordPlace.{IsReachable}
use Rattle.wal_reader.specs.ReadFailures.{IsTold}
use Rattle.wal_reader.proofs.GatherLaws.{bytes_in_page, crosses_none, gathers_further, page_from}
use Rattle.wal_reader.proofs.NextPositionLaws.{next_position-below, next_position-further, next_position-whole}
use Rattle.wal_reader.proofs.PagesLaws.{take-bytes_from}
use Rattle.wal_reader.proofs.RowLaws.{first_of, first_fault-append, number_at-take}

-- ---- four groups of checks, one behind another

module _ (r1 r2 r3 r4 : List (Bool × Answer)) where
  four : first_fault (r1 ++ r2 ++ r3 ++ r4) ≡ first_of (first_of (first_of (first_fault r1) (first_fault r2)) (first_fault r3)) (first_fault r4)
  four =
      first_fault-append (r1 ++ r2 ++ r3) r4
      ∙ ap (λ (o : Option Answer). first_of o (first_fault r4)) (first_fault-append (r1 ++ r2) r3
      ∙ ap (λ (o : Option Answer). first_of o (first_fault r3)) (first_fault-append r1 r2))

  told_first : (a : Answer) → first_fault r1 ≡ Some a → first_fault (r1 ++ r2 ++ r3 ++ r4) ≡ Some a
  told_first a e = four ∙ rw e refl

  told_second : (a : Answer) → first_fault r1 ≡ None → first_fault r2 ≡ Some a → first_fault (r1 ++ r2 ++ r3 ++ r4) ≡ Some a
  told_second a d e = four ∙ rw (d, e) refl

  told_third : (a : Answer) → first_fault r1 ≡ None → first_fault r2 ≡ None → first_fault r3 ≡ Some a → first_fault (r1 ++ r2 ++ r3 ++ r4) ≡ Some a
  told_third a c d e = four ∙ rw (c, d, e) refl

  told_last : (a : Answer) → first_fault r1 ≡ None → first_fault r2 ≡ None → first_fault r3 ≡ None → first_fault r4 ≡ Some a → first_fault (r1 ++ r2 ++ r3 ++ r4) ≡ Some a
  told_last a b c d e = four ∙ rw (b, c, d, e) refl

  told_by_none : first_fault r1 ≡ None → first_fault r2 ≡ None → first_fault r3 ≡ None → first_fault r4 ≡ None → first_fault (r1 ++ r2 ++ r3 ++ r4) ≡ None
  told_by_none b c d e = four ∙ rw (b, c, d, e) refl

-- a stop that tells the first check that fails tells what is read
pub stop_tells : (size : ℕ) (pages : Pages) (place : RecordPlace) (here : Result FoundRecord Answer) (fault : Option Answer) → ((answer : Answer) → fault ≡ Some answer → here ≡ Err answer) → (stop : ReadFailure) → IsTold fault stop → IsRead size pages place here (Err stop)
stop_tells size pages place here fault goes (failures.Told answer) told = goes answer told
stop_tells size pages place here fault goes failures.Memory told = told
stop_tells size pages place here fault goes failures.Disk told = told

-- what is read by an extent is read at its place
pub read_as : (size : ℕ) (pages : Pages) (at : RecordPlace) (extent : RecordExtent) (here : Result FoundRecord Answer) (result : Result (FoundRecord × RecordPlace) ReadFailure) → extent.at ≡ at → here ≡ said_of size pages at extent.total (first_fault (rest_rows size pages at extent.total))
    → IsRead size pages extent.at (said_of size pages extent.at extent.total (first_fault (rest_rows size pages extent.at extent.total))) result → IsRead size pages at here result
read_as size pages at extent here result same said read =
    let at_own : RecordPlace → Type 0 = λ a. IsRead size pages a (said_of size pages a extent.total (first_fault (rest_rows size pages a extent.total))) result in
    subst (λ (h : Result FoundRecord Answer). IsRead size pages at h result) (sym said) (subst at_own same read)

-- what a room holds by an extent it holds by its place
pub room_as : (size : ℕ) (pages : Pages) (at : RecordPlace) (extent : RecordExtent) (n : ℕ) (room : List ℕ) → extent.at ≡ at → extent.total ≡ n → HoldsPassed size pages extent.at extent.total (address_of size extent.at.position / 8192) room → HoldsPassed size pages at n (address_of size at.position / 8192) room
room_as size pages at extent n room same sized holds =
    let at_own : RecordPlace → Type 0 = λ a. HoldsPassed size pages a n (address_of size a.position / 8192) room in
    let sized_own : ℕ → Type 0 = λ total. HoldsPassed size pages extent.at total (address_of size extent.at.position / 8192) room in
    subst at_own same (subst sized_own sized holds)

-- ---- the same of a record's groups, by the pages that were crossed

module _ (size : ℕ) (pages : Pages) (place : RecordPlace) (total : ℕ) (p0 p1 p2 : ℕ) (e0 : p0 ≡ address_of size place.position / 8192) (e1 : p1 ≡ page_of_byte size place.position 24) (e2 : p2 ≡ page_of_byte size place.position total) where
  abbrev start : ℕ
  start = address_of size place.position

  abbrev header : List ℕ
  header = bytes_from size pages 24 place.position

  abbrev whole : List ℕ
  whole = bytes_from size pages total place.position

  abbrev rows_of_header_pages : List (Bool × Answer)
  rows_of_header_pages = rows_of_pages size pages place total (start / 8192) (page_of_byte size place.position 24)

  abbrev rows_of_further_pages : List (Bool × Answer)
  rows_of_further_pages = rows_of_pages size pages place total (page_of_byte size place.position 24) (page_of_byte size place.position total)

  abbrev said : Result FoundRecord Answer
  said = said_of size pages place total (first_fault (rest_rows size pages place total))

  header_pages_pass : Crosses size pages place total p0 p1 → first_fault rows_of_header_pages ≡ None
  header_pages_pass crosses = rw (← e0, ← e1) crosses.passes

  further_pages_pass : Crosses size pages place total p1 p2 → first_fault rows_of_further_pages ≡ None
  further_pages_pass crosses = rw (← e1, ← e2) crosses.passes

  pub stopped_before_header : (stop : ReadFailure) → IsTold (first_fault (rows_of_pages size pages place total p0 (page_of_byte size place.position 24))) stop → IsRead size pages place said (Err stop)
  stopped_before_header (failures.Told answer) told =
      let first : first_fault rows_of_header_pages ≡ Some answer = rw (← e0) told in
      ap (said_of size pages place total) (told_first rows_of_header_pages (header_rows start place.prev header) rows_of_further_pages (crc_rows start whole) answer first)
  stopped_before_header failures.Memory told = told
  stopped_before_header failures.Disk told = told

  module _ (crossed : Crosses size pages place total p0 p1) where
    pub header_fails : (answer : Answer) → first_fault (header_rows start place.prev header) ≡ Some answer → said ≡ Err answer
    header_fails answer told = ap (said_of size pages place total) (told_second rows_of_header_pages (header_rows start place.prev header) rows_of_further_pages (crc_rows start whole) answer (header_pages_pass crossed) told)

    module _ (sound : first_fault (header_rows start place.prev header) ≡ None) where
      pub stopped_behind_header : (stop : ReadFailure) → IsTold (first_fault (rows_of_pages size pages place total p1 (page_of_byte size place.position total))) stop → IsRead size pages place said (Err stop)
      stopped_behind_header (failures.Told answer) told =
          let third : first_fault rows_of_further_pages ≡ Some answer = rw (← e1) told in
          ap (said_of size pages place total) (told_third rows_of_header_pages (header_rows start place.prev header) rows_of_further_pages (crc_rows start whole) answer (header_pages_pass crossed) sound third)
      stopped_behind_header failures.Memory told = told
      stopped_behind_header failures.Disk told = told

      module _ (crossed_further : Crosses size pages place total p1 p2) where
        pub crc_fails : (answer : Answer) → first_fault (crc_rows start whole) ≡ Some answer → said ≡ Err answer
        crc_fails answer told = ap (said_of size pages place total) (told_last rows_of_header_pages (header_rows start place.prev header) rows_of_further_pages (crc_rows start whole) answer (header_pages_pass crossed) sound (further_pages_pass crossed_further) told)

        pub all_pass : first_fault (crc_rows start whole) ≡ None → said ≡ found_or size place total (number_at w64 whole 8) (reading_of whole)
        all_pass told = ap (said_of size pages place total) (told_by_none rows_of_header_pages (header_rows start place.prev header) rows_of_further_pages (crc_rows start whole) (header_pages_pass crossed) sound (further_pages_pass crossed_further) told)

-- a header's checks look at its own bytes
pub header_rows-front : (start : ℕ) (prev : Option Lsn) (bytes : List ℕ) → header_rows start prev (take 24 bytes) ≡ header_rows start prev bytes
header_rows-front start prev bytes =
    let manager : slice_index (take 24 bytes) 17 ≡ slice_index bytes 17 = get_or-take 24 bytes 17 0 (omega arith) in
    let named : number_at w64 (take 24 bytes) 8 ≡ number_at w64 bytes 8 = number_at-take w64 bytes 24 8 (omega arith) in
    rw (manager, named) refl

-- ---- behind a record

total_found : Result FoundRecord Answer → ℕ
total_found (Ok found) = found.head.total
total_found (Err answer) = 0

-- a record that is found has the size that it claims
total_found_is : (size : ℕ) (place : RecordPlace) (total prev : ℕ) (reading : Result Record RecErr) (found : FoundRecord) → found_or size place total prev reading ≡ Ok found → found.head.total ≡ total
unfolding total_found
total_found_is size place total prev (Ok value) found e = ap total_found (sym e)
total_found_is size place total prev (Err Memory) found e = absurd (cc)
total_found_is size place total prev (Err (Malformed at kind)) found e = absurd (cc)
total_found_is size place total prev (Err (Compressed block)) found e = absurd (cc)

pub found_behind : (size : ℕ) (pages : Pages) (at : RecordPlace) (total prev : ℕ) (reading : Result Record RecErr) (found : FoundRecord) (cursor : PageCursor) (bytes : List ℕ) → found_or size at total prev reading ≡ Ok found
    → cursor.page ≡ page_of_byte size at.position total → pages cursor.page ≡ Some bytes → timeline_of bytes ≡ cursor.timeline
    → behind_read size at found total cursor.timeline ≡ place_behind size pages at found
found_behind size pages at total prev reading found cursor bytes e last here timeline =
    rw (total_found_is size at total prev reading found e, ← last, here, ← timeline) refl

-- what was found of bytes, by whatever names
pub found_as : (size : ℕ) (place : RecordPlace) (total : ℕ) (bytes own_bytes : List ℕ) (found answer : Result FoundRecord Answer) → own_bytes ≡ bytes → found ≡ found_or size place total (number_at w64 own_bytes 8) (reading_of own_bytes) → found ≡ answer → found_or size place total (number_at w64 bytes 8) (reading_of bytes) ≡ answer
found_as size place total bytes own_bytes found answer same e f =
    let by_bytes : List ℕ → Type 0 = λ bs. found_or size place total (number_at w64 bs 8) (reading_of bs) ≡ answer in
    subst by_bytes same (sym e ∙ f)

-- what holds of each thing that may be found holds of what was found
pub of_found : (result : Result (FoundRecord × RecordPlace) Answer) (P : FoundRecord × RecordPlace → Type 0) (read : FoundRecord × RecordPlace) → result ≡ Ok read → IfOk result P → P read
of_found result P read e each = subst (λ (r : Result (FoundRecord × RecordPlace) Answer). IfOk r P) e each

-- the next record starts in reach, whatever this one is
pub end_in_reach : (size position total : ℕ) (cursor : PageCursor) → HasGathered size position total cursor → position % 8 ≡ 0 → 0 < total → (value : Record) → next_position size position total value < 2 ^ 60
end_in_reach size position total cursor gathered aligned some value =
    let stands = gathered.stands in
    let words : (cursor.page + 1) * 8192 ≡ 8 * ((cursor.page + 1) * 1024) = omega arith in
    let pages : (cursor.page + 1) * 8192 ≡ 8192 * (cursor.page + 1) = omega arith in
    let border = position_of size ((cursor.page + 1) * 8192) in
    let whole : border % 8 ≡ 0 = ap (λ (a : ℕ). position_of size a % 8) words ∙ position_of-mod_word size stands.valid ((cursor.page + 1) * 1024) in
    let next : border ≡ position_of size (8192 * cursor.page) + (8192 - header_size size cursor.page) = ap (position_of size) pages ∙ position_of-next_page size stands.valid cursor.page in
    let below = position_of-le_self size (8192 * cursor.page) in
    let header = header_size_bounds size stands.valid cursor.page in
    let within : position + total ≤ border = omega (arith, stands.at) in
    let small : border < 2 ^ 60 = omega (arith, stands.reach) in
    let last : address_of size (position + total - 1) < 2 ^ 60 = omega (arith, gathered.last some, stands.reach) in
    next_position-below size stands.valid position total value (omega arith) last

pub end_in_page : (size position total : ℕ) (cursor : PageCursor) → HasGathered size position 0 cursor → cursor.offset + total ≤ 8192 → 24 ≤ total → position % 8 ≡ 0 → (value : Record) → next_position size position total value < 2 ^ 60
end_in_page size position total cursor gathered within large aligned =
    end_in_reach size position total (record cursor { offset = cursor.offset + total }) (gathers_further size position 0 cursor gathered.stands total total (omega arith) within (omega arith)) aligned (omega arith)

pub goes_on_behind : (size : ℕ) → IsSegmentSize size → (at next : RecordPlace) (total : ℕ) (value : Record) → IsReachable at → 24 ≤ total → next_position size at.position total value < 2 ^ 60 → next.position ≡ next_position size at.position total value → GoesOn at next
goes_on_behind size valid at next total value reachable large bound e =
    (omega (arith, next_position-further size valid at.position total value (omega arith)), record { aligned = omega (arith, next_position-whole size valid at.position total value reachable.aligned); bounded = omega arith })

-- ---- a record that its first page has whole

module _ (size : ℕ) (pages : Pages) (at : RecordPlace) (start : Lsn) (total : ℕ) (cursor : PageCursor) (page bytes : List ℕ) (starts : start.0 ≡ address_of size at.position) (first : cursor.page ≡ address_of size at.position / 8192) (gathered : HasGathered size at.position 0 cursor)
    (here : pages cursor.page ≡ Some page) (whole_page : IsPage page) (large : 24 ≤ total) (within : cursor.offset + total ≤ 8192) (own : bytes ≡ take total (drop cursor.offset page)) where
  abbrev said_here : Result FoundRecord Answer
  said_here = said_of size pages at total (first_fault (rest_rows size pages at total))

  stands : StandsIn size at.position cursor
  stands = let e : at.position + 0 ≡ at.position = omega arith in subst (λ (p : ℕ). StandsIn size p cursor) e gathered.stands

  page_has : (n : ℕ) → 0 < n → n ≤ total → cursor.page ≡ page_of_byte size at.position n
  page_has n some few =
      let e : at.position + n - 1 ≡ at.position + (n - 1) = omega arith in
      sym (page_from size at.position cursor stands (n - 1) (omega arith)) ∙ ap (λ (p : ℕ). address_of size p / 8192) (sym e)

  in_page : (n : ℕ) → n ≤ total → bytes_from size pages n at.position ≡ take n bytes
  in_page n few =
      bytes_in_page size at.position cursor stands pages page here whole_page n (omega arith) ∙ sym (ap (take n) own ∙ take-take n total (drop cursor.offset page) few)

  record_bytes : bytes_from size pages total at.position ≡ bytes
  record_bytes = bytes_in_page size at.position cursor stands pages page here whole_page total within ∙ sym own

  abbrev crosses_nothing : Crosses size pages at total cursor.page cursor.page
  crosses_nothing = crosses_none size pages at total cursor.page

  pub header_fails_here : (answer : Answer) → first_fault (header_rows start.0 at.prev bytes) ≡ Some answer → said_here ≡ Err answer
  header_fails_here answer told =
      let rows : header_rows (address_of size at.position) at.prev (bytes_from size pages 24 at.position) ≡ header_rows start.0 at.prev bytes = ap (header_rows (address_of size at.position) at.prev) (in_page 24 large) ∙ header_rows-front (address_of size at.position) at.prev bytes ∙ ap (λ (a : ℕ). header_rows a at.prev bytes) (sym starts) in
      header_fails size pages at total cursor.page cursor.page cursor.page first (page_has 24 (omega arith) large) (page_has total (omega arith) (omega arith)) crosses_nothing answer (ap first_fault rows ∙ told)

  header_passes_here : first_fault (header_rows start.0 at.prev bytes) ≡ None → first_fault (header_rows (address_of size at.position) at.prev (bytes_from size pages 24 at.position)) ≡ None
  header_passes_here told =
      let rows : header_rows (address_of size at.position) at.prev (bytes_from size pages 24 at.position) ≡ header_rows start.0 at.prev bytes = ap (header_rows (address_of size at.position) at.prev) (in_page 24 large) ∙ header_rows-front (address_of size at.position) at.prev bytes ∙ ap (λ (a : ℕ). header_rows a at.prev bytes) (sym starts) in
      ap first_fault rows ∙ told

  crc_rows_here : crc_rows (address_of size at.position) (bytes_from size pages total at.position) ≡ crc_rows start.0 bytes
  crc_rows_here = ap (crc_rows (address_of size at.position)) record_bytes ∙ ap (λ (a : ℕ). crc_rows a bytes) (sym starts)

  pub crc_fails_here : first_fault (header_rows start.0 at.prev bytes) ≡ None → (answer : Answer) → first_fault (crc_rows start.0 bytes) ≡ Some answer → said_here ≡ Err answer
  crc_fails_here sound answer told =
      crc_fails size pages at total cursor.page cursor.page cursor.page first (page_has 24 (omega arith) large) (page_has total (omega arith) (omega arith)) crosses_nothing (header_passes_here sound) crosses_nothing answer (ap first_fault crc_rows_here ∙ told)

  pub read_here : first_fault (header_rows start.0 at.prev bytes) ≡ None → first_fault (crc_rows start.0 bytes) ≡ None → said_here ≡ found_or size at total (number_at w64 bytes 8) (reading_of bytes)
  read_here sound intact =
      all_pass size pages at total cursor.page cursor.page cursor.page first (page_has 24 (omega arith) large) (page_has total (omega arith) (omega arith)) crosses_nothing (header_passes_here sound) crosses_nothing (ap first_fault crc_rows_here ∙ intact)
      ∙ ap (λ (bs : List ℕ). found_or size at total (number_at w64 bs 8) (reading_of bs)) record_bytes

  pub found_here : (found : FoundRecord) → timeline_of page ≡ cursor.timeline → found_or size at total (number_at w64 bytes 8) (reading_of bytes) ≡ Ok found → behind_read size at found total cursor.timeline ≡ place_behind size pages at found
  found_here found timeline e = found_behind size pages at total (number_at w64 bytes 8) (reading_of bytes) found cursor page e (page_has total (omega arith) (omega arith)) here timeline

-- ---- a record that was gathered over pages

-- what its first page has of it ends on the page that its header ends on
pub page_of_first_part : (size position upto : ℕ) (cursor : PageCursor) → HasGathered size position 0 cursor → 24 ≤ upto → (24 < upto → cursor.offset + upto ≤ 8192) → page_of_byte size position upto ≡ page_of_byte size position 24
page_of_first_part size position upto cursor gathered enough within =
    elim (cases_lt 24 upto) [
      | inl more ↦
          (let fits = within more in
          let stands = gathered.stands in
          let last : position + 0 + (upto - 1) ≡ position + upto - 1 = omega arith in
          let header : position + 0 + 23 ≡ position + 24 - 1 = omega arith in
          ap (λ (p : ℕ). address_of size p / 8192) (sym last) ∙ page_from size (position + 0) cursor stands (upto - 1) (omega arith)
          ∙ sym (page_from size (position + 0) cursor stands 23 (omega arith)) ∙ ap (λ (p : ℕ). address_of size p / 8192) header)
      | inr same ↦ (let e : upto ≡ 24 = omega arith in ap (page_of_byte size position) e)
    ]

pub bytes_from-none : (size : ℕ) (pages : Pages) (position n : ℕ) → n ≡ 0 → bytes_from size pages n position ≡ []
unfolding bytes_from
bytes_from-none size pages position n none = rw none refl

module _ (size : ℕ) (pages : Pages) (at : RecordPlace) (start : Lsn) (total : ℕ) (starts : start.0 ≡ address_of size at.position) (p0 p1 p2 : ℕ) (e0 : p0 ≡ address_of size at.position / 8192) (e1 : p1 ≡ page_of_byte size at.position 24) (e2 : p2 ≡ page_of_byte size at.position total) (crossed : Crosses size pages at total p0 p1) (upto : ℕ) (enough : 24 ≤ upto) (header : List ℕ) (header_is : header ≡ bytes_from size pages upto at.position) where
  abbrev told_over : Result FoundRecord Answer
  told_over = said_of size pages at total (first_fault (rest_rows size pages at total))

  header_rows_over : header_rows (address_of size at.position) at.prev (bytes_from size pages 24 at.position) ≡ header_rows start.0 at.prev header
  header_rows_over =
      let front : bytes_from size pages 24 at.position ≡ take 24 header = sym (take-bytes_from size pages 24 upto at.position enough) ∙ ap (take 24) (sym header_is) in
      ap (header_rows (address_of size at.position) at.prev) front ∙ header_rows-front (address_of size at.position) at.prev header ∙ ap (λ (a : ℕ). header_rows a at.prev header) (sym starts)

  pub header_fails_over : (answer : Answer) → first_fault (header_rows start.0 at.prev header) ≡ Some answer → told_over ≡ Err answer
  header_fails_over answer told = header_fails size pages at total p0 p1 p2 e0 e1 e2 crossed answer (ap first_fault header_rows_over ∙ told)

  module _ (sound : first_fault (header_rows start.0 at.prev header) ≡ None) where
    pub stopped_over : (stop : ReadFailure) → IsTold (first_fault (rows_of_pages size pages at total p1 (page_of_byte size at.position total))) stop → IsRead size pages at told_over (Err stop)
    stopped_over stop told = stopped_behind_header size pages at total p0 p1 p2 e0 e1 e2 crossed (ap first_fault header_rows_over ∙ sound) stop told

    module _ (crossed_further : Crosses size pages at total p1 p2) (bytes : List ℕ) (bytes_are : bytes ≡ bytes_from size pages total at.position) where
      crc_rows_over : crc_rows (address_of size at.position) (bytes_from size pages total at.position) ≡ crc_rows start.0 bytes
      crc_rows_over = rw (bytes_are, starts) refl

      pub crc_fails_over : (answer : Answer) → first_fault (crc_rows start.0 bytes) ≡ Some answer → told_over ≡ Err answer
      crc_fails_over answer told = crc_fails size pages at total p0 p1 p2 e0 e1 e2 crossed (ap first_fault header_rows_over ∙ sound) crossed_further answer (ap first_fault crc_rows_over ∙ told)

      pub read_over : first_fault (crc_rows start.0 bytes) ≡ None → told_over ≡ found_or size at total (number_at w64 bytes 8) (reading_of bytes)
      read_over intact =
          all_pass size pages at total p0 p1 p2 e0 e1 e2 crossed (ap first_fault header_rows_over ∙ sound) crossed_further (ap first_fault crc_rows_over ∙ intact)
          ∙ ap (λ (bs : List ℕ). found_or size at total (number_at w64 bs 8) (reading_of bs)) (sym bytes_are)
