-- The relation by which pages decode is the function that is computed, for all pages.
use Rattle.std.proofs.Common.{◌≡◌, ℕ, ◌+◌, ◌/◌, ◌%◌, ◌<◌, Bool, true, false, cond, List, [], ◌∷◌, ◌++◌, All, Option, Some, None, Result, Ok, Err, inl, inr, eqb, leb, refl, sym, ap, subst, ◌∙◌}
use Rattle.std.specs.Bool.{MatchBool}
use Rattle.std.specs.Prelude.{IfOk, slice_index}
use Rattle.std.specs.Int.{w32, w64}
use Rattle.byte_position.specs.Geometry.{IsSegmentSize}
use Rattle.byte_position.specs.Position.{address_of, position_of}
use Rattle.byte_position.proofs.PositionLaws.{position_of-address_of}
use Rattle.wal_types.specs.declared.record.Record.{Record}
use Rattle.wal_spelling.specs.Layout.{last_block_id, long_main_tag, origin_tag, short_main_tag, top_xid_tag}
use Rattle.wal_spelling.specs.Numbers.{number_at}
use Rattle.wal_record.specs.Fails.{FailsAt, block_rows, fork_rows, image_rows, is_cut_at, item_rows, last_of, relation_rows}
use Rattle.wal_record.specs.Reading.{Checks, reading_of}
use Rattle.wal_record.specs.Items.{Items}
use Rattle.wal_record.specs.Spells.{Spells}
use Rattle.wal_record.specs.declared.fault.RecErr.{RecErr}
use Rattle.wal_record.specs.declared.fault.RecErr.TheVariants.{Memory, Malformed, Compressed}
use Rattle.wal_record.specs.declared.fault.RecKind.{RecKind}
use Rattle.wal_record.specs.declared.fault.RecKind.TheVariants as kinds
use Rattle.wal_record.specs.declared.head.BlockHead.{BlockHead}
use Rattle.wal_record.proofs.Failing.{reads_spelled, refuses_failing}
use Rattle.wal_page.specs.Page.{first_fault}
use Rattle.wal_reader.specs.declared.found.FoundRecord.{FoundRecord}
use Rattle.wal_reader.specs.declared.found.Answer.{Answer}
use Rattle.wal_reader.specs.declared.record_place.RecordPlace.{RecordPlace}
use Rattle.wal_reader.specs.Decodes.{found_record, ReadsAt, ReadsIn, ReadsRecords, Says, TellsOrSays, ended, is_at_end, malformed, has_compressed, place_behind, record_rows, spelled}
use Rattle.wal_reader.specs.declared.read_failure.ReadFailure.{ReadFailure}
use Rattle.wal_reader.specs.RecordRead.{HoldsFront, IsRead, IsRoomAfter, IsRoomAfterStep}
use Rattle.wal_reader.specs.Spelled.{IsSpelledIn}
use Rattle.wal_reader.specs.Pages.{Pages, bytes_from}
use Rattle.wal_reader.specs.ReadAt.{ReadsComputed, answer_or, found_or, read_at, read_in}
use Rattle.wal_reader.proofs.PagesLaws.{bytes_from-fits}

-- ---- no check of a record's bytes tells want of memory

-- checks that tell something else
data TellNoMemory : Checks → Type 0 where
  no_check : TellNoMemory []
  of_form : {holds : Bool} {at : ℕ} {kind : RecKind} {rows : Checks} → TellNoMemory rows → TellNoMemory ((holds, Malformed at kind) ∷ rows)
  of_image : {holds : Bool} {block : ℕ} {rows : Checks} → TellNoMemory rows → TellNoMemory ((holds, Compressed block) ∷ rows)

told_malformed : (at : ℕ) (kind : RecKind) → (let told : Option RecErr = Some (Malformed at kind) in told ≡ Some Memory) → ⊥
told_malformed at kind e = absurd cc

told_compressed : (block : ℕ) → (let told : Option RecErr = Some (Compressed block) in told ≡ Some Memory) → ⊥
told_compressed block e = absurd cc

told_none : (let told : Option RecErr = None in told ≡ Some Memory) → ⊥
told_none e = absurd cc

-- a row, and those behind it
row_tells : (holds : Bool) (e : RecErr) (others : Option RecErr) → ((let told : Option RecErr = Some e in told ≡ Some Memory) → ⊥) → (others ≡ Some Memory → ⊥) → cond holds (Some e) others ≡ Some Memory → ⊥
row_tells true e others here behind told = here told
row_tells false e others here behind told = behind told

silent : {rows : Checks} → TellNoMemory rows → first_fault rows ≡ Some Memory → ⊥
silent no_check told = told_none told
silent (of_form {holds} {at} {kind} {rows} others) told = row_tells holds (Malformed at kind) (first_fault rows) (told_malformed at kind) (silent others) told
silent (of_image {holds} {block} {rows} others) told = row_tells holds (Compressed block) (first_fault rows) (told_compressed block) (silent others) told

rows_and : {xs ys : Checks} → TellNoMemory xs → TellNoMemory ys → TellNoMemory (xs ++ ys)
rows_and no_check others = others
rows_and (of_form rows) others = of_form (rows_and rows others)
rows_and (of_image rows) others = of_image (rows_and rows others)

rows_by : (b : Bool) {xs ys : Checks} → TellNoMemory xs → TellNoMemory ys → TellNoMemory (cond b xs ys)
rows_by true one other = one
rows_by false one other = other

relation_silent : (same : Bool) (before : Option BlockHead) (bytes : List ℕ) (at : ℕ) → TellNoMemory (relation_rows same before bytes at)
relation_silent true None bytes at = of_form no_check
relation_silent true (Some head) bytes at = no_check
relation_silent false before bytes at = of_form no_check

block_silent : (before : Option BlockHead) (bytes : List ℕ) (at : ℕ) → TellNoMemory (block_rows before bytes at)
block_silent before bytes at =
    let flags = slice_index bytes (at + 1) in
    let has_image = eqb (flags / 16 % 2) 1 in
    let same = eqb (flags / 128 % 2) 1 in
    let image = at + 1 + 3 in
    let relation = cond has_image (image + 5) image in
    let of_fork : TellNoMemory (fork_rows bytes (at + 1)) = of_form (of_form (of_form no_check)) in
    let of_own_image : TellNoMemory (image_rows (slice_index bytes at) bytes image) = of_form (of_form (of_image (of_form no_check))) in
    let number = cond same relation (relation + 12) in
    let of_number : TellNoMemory ((is_cut_at bytes number 4, Malformed number kinds.Short) ∷ []) = of_form no_check in
    of_form (rows_and (rows_and (rows_and of_fork (rows_by has_image of_own_image no_check)) (relation_silent same before bytes relation)) of_number)

item_silent : (items : Items) (bytes : List ℕ) (at : ℕ) → TellNoMemory (item_rows items bytes at)
item_silent items bytes at =
    let first = slice_index bytes at in
    rows_by (leb first last_block_id) (of_form (block_silent (last_of None items.blocks) bytes at))
    (rows_by (eqb first origin_tag) (of_form (of_form no_check))
    (rows_by (eqb first top_xid_tag) (of_form (of_form no_check))
    (rows_by (eqb first short_main_tag) (of_form no_check)
    (rows_by (eqb first long_main_tag) (of_form no_check) (of_form no_check)))))

no_malformed : (at : ℕ) (kind : RecKind) → (let told : RecErr = Memory in told ≡ Malformed at kind) → ⊥
no_malformed at kind e = absurd cc

pub no_memory : (bytes : List ℕ) → FailsAt bytes Memory → ⊥
no_memory bytes (inl length) = no_malformed _ _ length.1
no_memory bytes (inr (inl manager)) = no_malformed _ _ manager.2
no_memory bytes (inr (inr (head, inl breaks))) = silent (item_silent breaks.items bytes breaks.place.at) breaks.breaks
no_memory bytes (inr (inr (head, inr fill))) = no_malformed _ _ fill.told

-- ---- what a record's bytes say

module _ (size : ℕ) (place : RecordPlace) (total prev : ℕ) (bytes : List ℕ) (fits : All (λ b. b < 256) bytes) where
  says_read : (reading : Result Record RecErr) (result : Result FoundRecord Answer) → reading_of bytes ≡ reading → found_or size place total prev reading ≡ result → Says size place total prev bytes result
  says_read (Ok value) result e told = subst (λ (r : Result FoundRecord Answer). Says size place total prev bytes r) told (spelled value ((reads_spelled bytes value fits).0 e))
  says_read (Err Memory) result e told = absurd (no_memory bytes ((refuses_failing bytes Memory fits).0 e))
  says_read (Err (Malformed at kind)) result e told = subst (λ (r : Result FoundRecord Answer). Says size place total prev bytes r) told (malformed at kind ((refuses_failing bytes (Malformed at kind) fits).0 e))
  says_read (Err (Compressed block)) result e told = subst (λ (r : Result FoundRecord Answer). Says size place total prev bytes r) told (has_compressed block ((refuses_failing bytes (Compressed block) fits).0 e))

  said : {result : Result FoundRecord Answer} → Says size place total prev bytes result → found_or size place total prev (reading_of bytes) ≡ result
  said (spelled value spells) = ap (found_or size place total prev) ((reads_spelled bytes value fits).1 spells)
  said (malformed at kind fails) = ap (found_or size place total prev) ((refuses_failing bytes (Malformed at kind) fits).1 fails)
  said (has_compressed block fails) = ap (found_or size place total prev) ((refuses_failing bytes (Compressed block) fits).1 fails)

-- ---- the record at a place

by_end : {A : Type 0} (holds : Bool) (ended other result : A) (Q : Type 0) → (other ≡ result → Q) → cond holds ended other ≡ result → MatchBool holds (result ≡ ended) Q
by_end true ended other result Q goes e = sym e
by_end false ended other result Q goes e = goes e

from_end : {A : Type 0} (holds : Bool) (ended other result : A) (Q : Type 0) → (Q → other ≡ result) → MatchBool holds (result ≡ ended) Q → cond holds ended other ≡ result
from_end true ended other result Q goes e = sym e
from_end false ended other result Q goes q = goes q

module _ (size : ℕ) (pages : Pages) (end : Option ℕ) (place : RecordPlace) (result : Result FoundRecord Answer) where
  tells_or_says : (fault : Option Answer) → answer_or size pages place fault ≡ result → TellsOrSays size pages place fault result
  tells_or_says (Some answer) e = sym e
  tells_or_says None e =
      let header = bytes_from size pages 24 place.position in
      let total = number_at w32 header 0 in
      says_read size place total (number_at w64 header 8) (bytes_from size pages total place.position) (bytes_from-fits size pages total place.position) (reading_of (bytes_from size pages total place.position)) result refl e

  answer_from : (fault : Option Answer) → TellsOrSays size pages place fault result → answer_or size pages place fault ≡ result
  answer_from (Some answer) e = sym e
  answer_from None says =
      let header = bytes_from size pages 24 place.position in
      let total = number_at w32 header 0 in
      said size place total (number_at w64 header 8) (bytes_from size pages total place.position) (bytes_from-fits size pages total place.position) says

  reads_in : (page : Option (List ℕ)) → read_in size pages end place page ≡ result → ReadsIn size pages end place page result
  reads_in None e = sym e
  reads_in (Some bytes) e = tells_or_says (first_fault (record_rows size pages end place bytes)) e

  read_from : (page : Option (List ℕ)) → ReadsIn size pages end place page result → read_in size pages end place page ≡ result
  read_from None e = sym e
  read_from (Some bytes) says = answer_from (first_fault (record_rows size pages end place bytes)) says

  -- what is computed at a place is read there
  pub reads_at : read_at size pages end place ≡ result → ReadsAt size pages end place result
  unfolding read_at ReadsAt
  reads_at e = by_end (is_at_end end (address_of size place.position)) (Err (ended size place.position)) (read_in size pages end place (pages (address_of size place.position / 8192))) result (ReadsIn size pages end place (pages (address_of size place.position / 8192)) result) (reads_in (pages (address_of size place.position / 8192))) e

  -- what is read at a place is what is computed there
  pub read_at_of : ReadsAt size pages end place result → read_at size pages end place ≡ result
  unfolding read_at ReadsAt
  read_at_of reads = from_end (is_at_end end (address_of size place.position)) (Err (ended size place.position)) (read_in size pages end place (pages (address_of size place.position / 8192))) result (ReadsIn size pages end place (pages (address_of size place.position / 8192)) result) (read_from (pages (address_of size place.position / 8192))) reads

-- ---- records, one behind another

pub reads_records : (size : ℕ) (pages : Pages) (end : Option ℕ) (place : RecordPlace) (found : List FoundRecord) (answer : Answer) → ReadsComputed size pages end place found answer → ReadsRecords size pages end place found answer
reads_records size pages end place [] answer reads = reads_at size pages end place (Err answer) reads
reads_records size pages end place (found ∷ others) answer reads =
    (reads_at size pages end place (Ok found) reads.0, reads_records size pages end (place_behind size pages place found) others answer reads.1)

pub records_computed : (size : ℕ) (pages : Pages) (end : Option ℕ) (place : RecordPlace) (found : List FoundRecord) (answer : Answer) → ReadsRecords size pages end place found answer → ReadsComputed size pages end place found answer
records_computed size pages end place [] answer reads = read_at_of size pages end place (Err answer) reads
records_computed size pages end place (found ∷ others) answer reads =
    (read_at_of size pages end place (Ok found) reads.0, records_computed size pages end (place_behind size pages place found) others answer reads.1)

-- ---- the bytes of a record that is read

same_found : (found other : FoundRecord) → (let read : Result FoundRecord Answer = Ok found in read ≡ Ok other) → found ≡ other
same_found found other e = cc

no_answer : (answer : Answer) (found : FoundRecord) → (let read : Result FoundRecord Answer = Err answer in read ≡ Ok found) → ⊥
no_answer answer found e = absurd cc

-- a record starts at an address, has a size, and these bytes spell it
abbrev IsOf : ℕ → ℕ → List ℕ → FoundRecord → Type 0
IsOf start total bytes found = Spells bytes found.value × (found.head.total ≡ total) × (found.head.start.0 ≡ start)

of_says : (size : ℕ) (place : RecordPlace) (total prev : ℕ) (bytes : List ℕ) {result : Result FoundRecord Answer} → Says size place total prev bytes result → (found : FoundRecord) → result ≡ Ok found → IsOf (address_of size place.position) total bytes found
of_says size place total prev bytes (spelled value spells) found e =
    subst (IsOf (address_of size place.position) total bytes) (same_found (found_record size place total prev value) found e) (spells, refl, refl)
of_says size place total prev bytes (malformed at kind fails) found e = absurd (no_answer _ found e)
of_says size place total prev bytes (has_compressed block fails) found e = absurd (no_answer _ found e)

either_way : (holds : Bool) (P Q R : Type 0) → (P → R) → (Q → R) → MatchBool holds P Q → R
either_way true P Q R one other is = one is
either_way false P Q R one other is = other is

module _ (size : ℕ) (pages : Pages) (end : Option ℕ) (place : RecordPlace) (found : FoundRecord) where
  abbrev IsReadThere : Type 0
  IsReadThere = IsOf (address_of size place.position) found.head.total (bytes_from size pages found.head.total place.position) found

  of_answer : (fault : Option Answer) → TellsOrSays size pages place fault (Ok found) → IsReadThere
  of_answer (Some answer) e = absurd (no_answer answer found (sym e))
  of_answer None says =
      let header = bytes_from size pages 24 place.position in
      let total = number_at w32 header 0 in
      let is = of_says size place total (number_at w64 header 8) (bytes_from size pages total place.position) says found refl in
      (subst (λ (n : ℕ). Spells (bytes_from size pages n place.position) found.value) (sym is.1) is.0, refl, is.2)

  of_page : (page : Option (List ℕ)) → ReadsIn size pages end place page (Ok found) → IsReadThere
  of_page None e = absurd (no_answer _ found (sym e))
  of_page (Some bytes) says = of_answer (first_fault (record_rows size pages end place bytes)) says

  read_there : ReadsAt size pages end place (Ok found) → IsReadThere
  unfolding ReadsAt
  read_there reads =
      let page = pages (address_of size place.position / 8192) in
      either_way (is_at_end end (address_of size place.position)) _ (ReadsIn size pages end place page (Ok found)) IsReadThere (λ e. absurd (no_answer _ found (sym e))) (of_page page) reads

-- the bytes of a record that was read, in the pages, spell it
pub read_is_spelled : (size : ℕ) (pages : Pages) (end : Option ℕ) (place : RecordPlace) → IsSegmentSize size → (result : Result (FoundRecord × RecordPlace) ReadFailure) → IsRead size pages place (read_at size pages end place) result → IfOk result (λ r. IsSpelledIn size pages r.0)
unfolding IsSpelledIn
read_is_spelled size pages end place valid (Ok read) is =
    let there = read_there size pages end place read.0 (reads_at size pages end place (Ok read.0) is.0) in
    let position : position_of size read.0.head.start.0 ≡ place.position = ap (position_of size) there.2 ∙ position_of-address_of size valid place.position in
    subst (λ (p : ℕ). Spells (bytes_from size pages read.0.head.total p) read.0.value) (sym position) there.0
read_is_spelled size pages end place valid (Err stop) is = tt

-- ---- the room

-- what a room has after one more record was read
pub room_after_record : (size own : ℕ) (pages : Pages) (place : RecordPlace) (old mid new : List ℕ) → own ≡ size → IsRoomAfterStep size pages old mid → IsRoomAfter own pages place mid new → IsRoomAfterStep size pages old new
room_after_record size own pages place old mid new same before (inl still) = subst (λ (room : List ℕ). IsRoomAfterStep size pages old room) (sym still) before
room_after_record size own pages place old mid new same before (inr holds) = inr (place, subst (λ (n : ℕ). HoldsFront n pages place new) same holds)
