-- A record that stands whole, in pages that pass their checks, passes every check, and is read as its bytes say.
use Rattle.std.proofs.Common.{◌≡◌, ℕ, ◌/◌, ◌^◌, ◌<◌, ◌≤◌, true, false, List, ◌++◌, Some, None, Err, ◌&&◌, eqb, take, drop, refl, sym, ap, subst, ◌∙◌, arith}
use Rattle.std.specs.Prelude.{slice_index}
use Rattle.std.specs.Int.{w32, w64}
use Rattle.std.proofs.lemmas.Bool.{eq-eqb, and_from, and_right, not_from_true, le-ltb}
use Rattle.byte_position.specs.Position.{address_of}
use Rattle.wal_crc32c.specs.Crc32c.{crc32c}
use Rattle.wal_spelling.specs.Record.{is_free_manager}
use Rattle.wal_spelling.specs.Spelling.{Assembled, assembled_size, assembled_room, spelled, filled, crc_of}
use Rattle.wal_spelling.specs.Numbers.{number_at}
use Rattle.wal_record.specs.Reading.{reading_of}
use Rattle.wal_page.specs.Page.{is_continued, first_fault}
use Rattle.wal_reader.specs.declared.record_place.RecordPlace.{RecordPlace}
use Rattle.wal_reader.specs.Pages.{Pages, bytes_from}
use Rattle.wal_reader.specs.Decodes.{is_zero_word, opens_page, page_answers, rows_of_pages, page_of_byte, is_right_prev, opening_rows, record_rows, ended}
use Rattle.wal_reader.specs.ReadAt.{found_or, answer_or, read_in, read_at}
use Rattle.written_log_laws.proofs.Tables.{NoneHolds, NoneHolds-append, Tells, Tells-append, first_fault-none, first_fault-told}
use Rattle.written_log_laws.proofs.Tables.NoneHolds.{none, past}
use Rattle.written_log_laws.proofs.Tables.Tells.{at_once}
use Rattle.written_log_laws.proofs.RecordBytes.{size_in_word, size_in_header, header_is_no_zero_word, prev_in_header, take-filled, crc_in_spelled}

-- a place in a page that is there and passes its own checks, and no record continues into it where the place is its first
pub record IsIn (size : ℕ) (pages : Pages) (place : RecordPlace) (page : List ℕ) : Type 0 where
  pub here : pages (address_of size place.position / 8192) ≡ Some page
  pub no_zero_word : is_zero_word page ≡ false
  pub not_claimed : (opens_page size place.position && is_continued page) ≡ false
  pub passes : NoneHolds (page_answers size (address_of size place.position / 8192) page place.timeline)

-- a record stands at a place, whole, and the further pages that it needs are there and pass their checks
pub record StandsAt (size : ℕ) (pages : Pages) (place : RecordPlace) (a : Assembled) (prev : ℕ) : Type 0 where
  pub rest : List ℕ
  pub bytes : (n : ℕ) → n ≤ assembled_room a → bytes_from size pages n place.position ≡ take n (filled a prev ++ rest)
  pub header_pages : NoneHolds (rows_of_pages size pages place (assembled_size a) (address_of size place.position / 8192) (page_of_byte size place.position 24))
  pub last_pages : NoneHolds (rows_of_pages size pages place (assembled_size a) (page_of_byte size place.position 24) (page_of_byte size place.position (assembled_size a)))
  pub manager : is_free_manager a.rmid ≡ false
  pub prev_right : is_right_prev place.prev (address_of size place.position) prev ≡ true
  pub size_fits : assembled_size a < 2 ^ 32
  pub prev_fits : prev < 2 ^ 64
  pub crc_fits : crc_of a prev < 2 ^ 32

-- its page's checks pass
opening_passes : (size : ℕ) (pages : Pages) (place : RecordPlace) (page : List ℕ) → IsIn size pages place page → NoneHolds (opening_rows size place page)
opening_passes size pages place page in_page =
    past (and_right (opens_page size place.position) _ in_page.no_zero_word) (NoneHolds-append in_page.passes (past in_page.not_claimed none))

read_at-page : (size : ℕ) (pages : Pages) (place : RecordPlace) (page : List ℕ) → pages (address_of size place.position / 8192) ≡ Some page → read_at size pages None place ≡ answer_or size pages place (first_fault (record_rows size pages None place page))
unfolding read_at
read_at-page size pages place page here = ap (read_in size pages None place) here

module _ (size : ℕ) (pages : Pages) (place : RecordPlace) (page : List ℕ) (a : Assembled) (prev : ℕ) (in_page : IsIn size pages place page) (stands : StandsAt size pages place a prev) where
  read_header : bytes_from size pages 24 place.position ≡ take 24 (filled a prev ++ stands.rest)
  read_header = stands.bytes 24 (omega arith)

  read_total : number_at w32 (bytes_from size pages 8 place.position) 0 ≡ assembled_size a
  read_total = ap (λ (bytes : List ℕ). number_at w32 bytes 0) (stands.bytes 8 (omega arith)) ∙ size_in_word a prev stands.rest stands.size_fits

  read_whole : bytes_from size pages (number_at w32 (bytes_from size pages 8 place.position) 0) place.position ≡ spelled a prev
  read_whole = ap (λ (n : ℕ). bytes_from size pages n place.position) read_total ∙ stands.bytes (assembled_size a) (omega arith) ∙ take-filled a prev stands.rest

  right_manager : is_free_manager (slice_index (bytes_from size pages 24 place.position) 17) ≡ false
  right_manager = ap (λ (bytes : List ℕ). is_free_manager (slice_index bytes 17)) read_header ∙ stands.manager

  read_prev : number_at w64 (bytes_from size pages 24 place.position) 8 ≡ prev
  read_prev = ap (λ (bytes : List ℕ). number_at w64 bytes 8) read_header ∙ prev_in_header a prev stands.rest stands.prev_fits

  right_prev : is_right_prev place.prev (address_of size place.position) (number_at w64 (bytes_from size pages 24 place.position) 8) ≡ true
  right_prev = ap (is_right_prev place.prev (address_of size place.position)) read_prev ∙ stands.prev_right

  right_crc : (let whole = bytes_from size pages (number_at w32 (bytes_from size pages 8 place.position) 0) place.position in eqb (crc32c (drop 24 whole ++ take 20 whole)) (number_at w32 whole 20)) ≡ true
  right_crc = ap (λ (whole : List ℕ). eqb (crc32c (drop 24 whole ++ take 20 whole)) (number_at w32 whole 20)) read_whole ∙ eq-eqb _ _ (sym (crc_in_spelled a prev stands.crc_fits))

  record_passes : NoneHolds (record_rows size pages None place page)
  record_passes =
      let total = number_at w32 (bytes_from size pages 8 place.position) 0 in
      let start_page = address_of size place.position / 8192 in
      let header_page = page_of_byte size place.position 24 in
      let header_pages : NoneHolds (rows_of_pages size pages place total start_page header_page) = subst (λ (n : ℕ). NoneHolds (rows_of_pages size pages place n start_page header_page)) (sym read_total) stands.header_pages in
      let last_pages : NoneHolds (rows_of_pages size pages place total header_page (page_of_byte size place.position total)) = subst (λ (n : ℕ). NoneHolds (rows_of_pages size pages place n header_page (page_of_byte size place.position n))) (sym read_total) stands.last_pages in
      let no_zero_word = ap is_zero_word read_header ∙ header_is_no_zero_word a prev stands.rest stands.size_fits in
      let sizes = past no_zero_word (past (le-ltb total 24 (omega (arith, read_total))) (past refl none)) in
      let of_header = NoneHolds-append header_pages (past right_manager (past (not_from_true _ right_prev) none)) in
      let rest = NoneHolds-append (NoneHolds-append of_header last_pages) (past (not_from_true _ right_crc) none) in
      NoneHolds-append (opening_passes size pages place page in_page) (NoneHolds-append sizes rest)

  -- a record that stands at a place is read there, as its bytes say
  pub record_is_read : read_at size pages None place ≡ found_or size place (assembled_size a) prev (reading_of (spelled a prev))
  record_is_read =
      read_at-page size pages place page in_page.here
      ∙ ap (answer_or size pages place) (first_fault-none record_passes)
      ∙ ap (λ (n : ℕ). found_or size place n (number_at w64 (bytes_from size pages 24 place.position) 8) (reading_of (bytes_from size pages n place.position))) (ap (λ (bytes : List ℕ). number_at w32 bytes 0) read_header ∙ size_in_header a prev stands.rest stands.size_fits)
      ∙ ap (λ (n : ℕ). found_or size place (assembled_size a) n (reading_of (bytes_from size pages (assembled_size a) place.position))) read_prev
      ∙ ap (λ (bytes : List ℕ). found_or size place (assembled_size a) prev (reading_of bytes)) (stands.bytes (assembled_size a) (omega arith) ∙ take-filled a prev stands.rest)

-- where a zero word stands in a page, the log ends
pub zero_word_ends : (size : ℕ) (pages : Pages) (place : RecordPlace) (page : List ℕ) → IsIn size pages place page → is_zero_word (bytes_from size pages 24 place.position) ≡ true → read_at size pages None place ≡ Err (ended size place.position)
zero_word_ends size pages place page in_page zero =
    let told : Tells (record_rows size pages None place page) (ended size place.position) =
    Tells-append (opening_passes size pages place page in_page) (at_once zero) in
    read_at-page size pages place page in_page.here ∙ ap (answer_or size pages place) (first_fault-told told)

-- a page of zeros where a record would start ends the log, and so does one that is not there
pub no_page_ends : (size : ℕ) (pages : Pages) (place : RecordPlace) → pages (address_of size place.position / 8192) ≡ None → read_at size pages None place ≡ Err (ended size place.position)
unfolding read_at
no_page_ends size pages place none_there = ap (read_in size pages None place) none_there

pub zero_page_ends : (size : ℕ) (pages : Pages) (place : RecordPlace) (page : List ℕ) → pages (address_of size place.position / 8192) ≡ Some page → opens_page size place.position ≡ true → is_zero_word page ≡ true → read_at size pages None place ≡ Err (ended size place.position)
zero_page_ends size pages place page there opens zero =
    let told : Tells (record_rows size pages None place page) (ended size place.position) = at_once (and_from (opens_page size place.position) (is_zero_word page) opens zero) in
    read_at-page size pages place page there ∙ ap (answer_or size pages place) (first_fault-told told)
