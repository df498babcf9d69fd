-- Laws of a record that is read as it is stored, by the groups of its checks.
use Rattle.std.proofs.Common.{◌≡◌, ℕ, ◌+◌, ◌/◌, ◌≤◌, Bool, eqb, List, ◌++◌, Option, Some, None, Result, Err, refl, sym, ap, subst, ◌∙◌}
use Rattle.std.specs.Int.{w32, w64}
use Rattle.byte_position.specs.Position.{address_of}
use Rattle.wal_types.specs.declared.lsn.Lsn.{Lsn}
use Rattle.wal_spelling.specs.Numbers.{number_at}
use Rattle.wal_record.specs.Stored.{stored_of}
use Rattle.wal_page.specs.Page.{first_fault}
use Rattle.wal_reader.specs.declared.found.Answer.{Answer}
use Rattle.wal_reader.specs.declared.found.FoundRecord.{FoundRecord}
use Rattle.wal_reader.specs.declared.page_cursor.PageCursor.{PageCursor}
use Rattle.wal_reader.specs.declared.read_failure.ReadFailure.{ReadFailure}
use Rattle.wal_reader.specs.declared.record_extent.RecordExtent.{RecordExtent}
use Rattle.wal_reader.specs.declared.record_place.RecordPlace.{RecordPlace}
use Rattle.wal_reader.specs.Decodes.{crc_rows, is_zero_word, opening_fault, opening_rows, page_of_byte, rows_of_pages, size_rows}
use Rattle.wal_reader.specs.PageCursor.{Crosses, HasGathered}
use Rattle.wal_reader.specs.Pages.{IsPage, Pages, bytes_from}
use Rattle.wal_reader.specs.PassingOver.{rows_again, stored_at, stored_in, stored_or}
use Rattle.wal_reader.specs.ReadAt.{found_or}
use Rattle.wal_reader.specs.ReadFailures.{IsTold}
use Rattle.wal_reader.specs.RecordRead.{IsRead}
use Rattle.wal_reader.proofs.RecordAt.{size_in_page, word_in_page}
use Rattle.wal_reader.proofs.RecordReads.{stop_tells}
use Rattle.wal_reader.proofs.RowLaws.{first_of, first_fault-append}

-- ---- tables of checks, one behind another

told_first : {K : Type 0} (xs ys : List (Bool × K)) (a : K) → first_fault xs ≡ Some a → first_fault (xs ++ ys) ≡ Some a
told_first {K} xs ys a e = first_fault-append xs ys ∙ ap (λ (o : Option K). first_of o (first_fault ys)) e

told_behind : {K : Type 0} (xs ys : List (Bool × K)) → first_fault xs ≡ None → first_fault (xs ++ ys) ≡ first_fault ys
told_behind {K} xs ys e = first_fault-append xs ys ∙ ap (λ (o : Option K). first_of o (first_fault ys)) e

-- ---- the page in which it starts, and its size

module _ (size : ℕ) (pages : Pages) (end : Option ℕ) (place : RecordPlace) where
  abbrev claimed_total : ℕ
  claimed_total = number_at w32 (bytes_from size pages 8 place.position) 0

  abbrev rows_of_size : List (Bool × Answer)
  rows_of_size = size_rows size end place.position (is_zero_word (bytes_from size pages 24 place.position)) claimed_total

  opening_tells : (here : Option (List ℕ)) (answer : Answer) → opening_fault size place here ≡ Some answer → stored_in size pages end place here ≡ Err answer
  opening_tells None answer told = ap (stored_or size pages place 0) told
  opening_tells (Some bytes) answer told = ap (stored_or size pages place claimed_total) (told_first (opening_rows size place bytes) (rows_of_size ++ rows_again size pages place claimed_total) answer told)

  pub stored-not_opened : (answer : Answer) → opening_fault size place (pages (address_of size place.position / 8192)) ≡ Some answer → stored_at size pages end place ≡ Err answer
  stored-not_opened answer told = opening_tells (pages (address_of size place.position / 8192)) answer told

  module _ (page : List ℕ) (here : pages (address_of size place.position / 8192) ≡ Some page) (opened : opening_fault size place (pages (address_of size place.position / 8192)) ≡ None) (cursor : PageCursor) (first : cursor.page ≡ address_of size place.position / 8192) (gathered : HasGathered size place.position 0 cursor) (whole : IsPage page) (within : cursor.offset + 8 ≤ 8192) where
    rows_in_page : rows_of_size ≡ size_rows size end place.position (eqb (number_at w64 page cursor.offset) 0) (number_at w32 page cursor.offset)
    rows_in_page = rw (word_in_page size pages None place refl page here opened cursor first gathered whole within, size_in_page size pages None place refl page here opened cursor first gathered whole within) refl

    behind_opening : stored_at size pages end place ≡ stored_or size pages place claimed_total (first_fault (rows_of_size ++ rows_again size pages place claimed_total))
    behind_opening =
        let passes : first_fault (opening_rows size place page) ≡ None = ap (opening_fault size place) (sym here) ∙ opened in
        ap (stored_in size pages end place) here ∙ ap (stored_or size pages place claimed_total) (told_behind (opening_rows size place page) (rows_of_size ++ rows_again size pages place claimed_total) passes)

    -- the first word or the size fails
    pub stored-no_size : (answer : Answer) → first_fault (size_rows size end place.position (eqb (number_at w64 page cursor.offset) 0) (number_at w32 page cursor.offset)) ≡ Some answer → stored_at size pages end place ≡ Err answer
    stored-no_size answer told =
        behind_opening ∙ ap (stored_or size pages place claimed_total) (told_first rows_of_size (rows_again size pages place claimed_total) answer (ap first_fault rows_in_page ∙ told))

    -- the rest decides
    pub stored-rest : (n : ℕ) → n ≡ number_at w32 page cursor.offset → first_fault (size_rows size end place.position (eqb (number_at w64 page cursor.offset) 0) (number_at w32 page cursor.offset)) ≡ None → stored_at size pages end place ≡ stored_or size pages place n (first_fault (rows_again size pages place n))
    stored-rest n e passes =
        let sized : claimed_total ≡ n = size_in_page size pages None place refl page here opened cursor first gathered whole within ∙ sym e in
        behind_opening
        ∙ ap (stored_or size pages place claimed_total) (told_behind rows_of_size (rows_again size pages place claimed_total) (ap first_fault rows_in_page ∙ passes))
        ∙ ap (λ (m : ℕ). stored_or size pages place m (first_fault (rows_again size pages place m))) sized

-- what is read by an extent is read at its place
pub stored_as : (size : ℕ) (pages : Pages) (at : RecordPlace) (extent : RecordExtent) (here : Result FoundRecord Answer) (result : Result (FoundRecord × RecordPlace) ReadFailure) → extent.at ≡ at → here ≡ stored_or size pages at extent.total (first_fault (rows_again size pages at extent.total))
    → IsRead size pages extent.at (stored_or size pages extent.at extent.total (first_fault (rows_again size pages extent.at extent.total))) result → IsRead size pages at here result
stored_as size pages at extent here result same said read =
    let at_own : RecordPlace → Type 0 = λ a. IsRead size pages a (stored_or size pages a extent.total (first_fault (rows_again size pages a extent.total))) result in
    subst (λ (h : Result FoundRecord Answer). IsRead size pages at h result) (sym said) (subst at_own same read)

-- ---- its pages and its bytes

module _ (size : ℕ) (pages : Pages) (at : RecordPlace) (start : Lsn) (total : ℕ) (starts : start.0 ≡ address_of size at.position) (p0 p1 : ℕ) (e0 : p0 ≡ address_of size at.position / 8192) (e1 : p1 ≡ page_of_byte size at.position total) where
  abbrev said_again : Result FoundRecord Answer
  said_again = stored_or size pages at total (first_fault (rows_again size pages at total))

  abbrev rows_of_all : List (Bool × Answer)
  rows_of_all = rows_of_pages size pages at total (address_of size at.position / 8192) (page_of_byte size at.position total)

  abbrev rows_of_crc : List (Bool × Answer)
  rows_of_crc = crc_rows (address_of size at.position) (bytes_from size pages total at.position)

  module _ (crossed : Crosses size pages at total p0 p1) (bytes : List ℕ) (bytes_are : bytes ≡ bytes_from size pages total at.position) where
    pages_pass : first_fault rows_of_all ≡ None
    pages_pass = rw (← e0, ← e1) crossed.passes

    crc_rows_again : rows_of_crc ≡ crc_rows start.0 bytes
    crc_rows_again = rw (bytes_are, starts) refl

    pub stored-crc_fails : (answer : Answer) → first_fault (crc_rows start.0 bytes) ≡ Some answer → said_again ≡ Err answer
    stored-crc_fails answer told = ap (stored_or size pages at total) (told_behind rows_of_all rows_of_crc pages_pass ∙ ap first_fault crc_rows_again ∙ told)

    pub stored-read : first_fault (crc_rows start.0 bytes) ≡ None → said_again ≡ found_or size at total (number_at w64 bytes 8) (stored_of bytes)
    stored-read intact =
        ap (stored_or size pages at total) (told_behind rows_of_all rows_of_crc pages_pass ∙ ap first_fault crc_rows_again ∙ intact)
        ∙ ap (λ (bs : List ℕ). found_or size at total (number_at w64 bs 8) (stored_of bs)) (sym bytes_are)

-- a check of its pages fails
pub stored-stopped : (size : ℕ) (pages : Pages) (at : RecordPlace) (total p0 : ℕ) → p0 ≡ address_of size at.position / 8192 → (stop : ReadFailure) → IsTold (first_fault (rows_of_pages size pages at total p0 (page_of_byte size at.position total))) stop
    → IsRead size pages at (stored_or size pages at total (first_fault (rows_again size pages at total))) (Err stop)
stored-stopped size pages at total p0 e0 stop told =
    let rows = rows_of_pages size pages at total (address_of size at.position / 8192) (page_of_byte size at.position total) in
    let crc = crc_rows (address_of size at.position) (bytes_from size pages total at.position) in
    stop_tells size pages at (stored_or size pages at total (first_fault (rows_again size pages at total))) (first_fault (rows_of_pages size pages at total p0 (page_of_byte size at.position total)))
    (λ answer e. ap (stored_or size pages at total) (told_first rows crc answer (rw (← e0) e))) stop told

-- what was found of bytes, by whatever names
pub stored_found_as : (size : ℕ) (place : RecordPlace) (total : ℕ) (bytes own_bytes : List ℕ) (found answer : Result FoundRecord Answer) → own_bytes ≡ bytes → found ≡ found_or size place total (number_at w64 own_bytes 8) (stored_of own_bytes) → found ≡ answer → found_or size place total (number_at w64 bytes 8) (stored_of bytes) ≡ answer
stored_found_as size place total bytes own_bytes found answer same e f =
    let by_bytes : List ℕ → Type 0 = λ bs. found_or size place total (number_at w64 bs 8) (stored_of bs) ≡ answer in
    subst by_bytes same (sym e ∙ f)
