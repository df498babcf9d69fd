-- What holds where a record is read: it and the pages that it needs passed each check, and its bytes said so.
use Rattle.std.proofs.Common.{◌≡◌, ℕ, ◌/◌, true, false, not, eqb, List, ◌++◌, take, drop, Option, Some, None, Ok, refl}
use Rattle.std.specs.Prelude.{slice_index}
use Rattle.std.specs.Int.{w32, w64}
use Rattle.std.proofs.lemmas.Bool.{not-false}
use Rattle.byte_position.specs.Position.{address_of}
use Rattle.wal_crc32c.specs.Crc32c.{crc32c}
use Rattle.wal_spelling.specs.Numbers.{number_at}
use Rattle.wal_spelling.specs.Record.{is_free_manager}
use Rattle.wal_record.specs.Reading.{reading_of}
use Rattle.wal_page.specs.Page.{first_fault}
use Rattle.wal_reader.specs.declared.record_place.RecordPlace.{RecordPlace}
use Rattle.wal_reader.specs.declared.found.FoundRecord.{FoundRecord}
use Rattle.wal_reader.specs.declared.found.Answer.{Answer}
use Rattle.wal_reader.specs.declared.found.DamageKind.TheVariants as damages
use Rattle.wal_reader.specs.Pages.{Pages, bytes_from}
use Rattle.wal_reader.specs.Decodes.{crc_rows, damaged, ended, header_rows, is_right_prev, is_zero_word, opening_rows, page_of_byte, record_rows, rest_rows, rows_of_pages, size_rows}
use Rattle.wal_reader.specs.ReadAt.{answer_or, found_or, read_at, read_in}
use Rattle.wal_reader.proofs.SettledLaws.{passes_both, passes_row}

-- the size that the first word of a record gives
abbrev pub claimed_size : ℕ → Pages → RecordPlace → ℕ
claimed_size size pages place = number_at w32 (bytes_from size pages 8 place.position) 0

-- the record that is found at a place: its first word is not zero, it names the right record before it, its CRC is right, and its bytes spell it; its page is there, which passes its checks, as do the pages into which it continues
pub record IsFoundAt (size : ℕ) (pages : Pages) (place : RecordPlace) (found : FoundRecord) : Type 0 where
  pub some_word : is_zero_word (bytes_from size pages 24 place.position) ≡ false
  pub right_prev : is_right_prev place.prev (address_of size place.position) (number_at w64 (bytes_from size pages 24 place.position) 8) ≡ true
  pub right_crc : (let whole = bytes_from size pages (number_at w32 (bytes_from size pages 8 place.position) 0) place.position in eqb (crc32c (drop 24 whole ++ take 20 whole)) (number_at w32 whole 20)) ≡ true
  pub page : List ℕ
  pub here : pages (address_of size place.position / 8192) ≡ Some page
  pub opens : first_fault (opening_rows size place page) ≡ None
  pub header_pages : first_fault (rows_of_pages size pages place (claimed_size size pages place) (address_of size place.position / 8192) (page_of_byte size place.position 24)) ≡ None
  pub last_pages : first_fault (rows_of_pages size pages place (claimed_size size pages place) (page_of_byte size place.position 24) (page_of_byte size place.position (claimed_size size pages place))) ≡ None
  pub spelled : (let header = bytes_from size pages 24 place.position in let total = number_at w32 header 0 in found_or size place total (number_at w64 header 8) (reading_of (bytes_from size pages total place.position))) ≡ Ok found

module _ (size : ℕ) (pages : Pages) (place : RecordPlace) (found : FoundRecord) where
  found_where : (bytes : List ℕ) → pages (address_of size place.position / 8192) ≡ Some bytes → (fault : Option Answer) → first_fault (record_rows size pages None place bytes) ≡ fault → answer_or size pages place fault ≡ Ok found → IsFoundAt size pages place found
  found_where bytes there (Some answer) fails e = absurd cc
  found_where bytes there None passes e =
      let start = address_of size place.position in
      let total = number_at w32 (bytes_from size pages 8 place.position) 0 in
      let header_bytes = bytes_from size pages 24 place.position in
      let whole = bytes_from size pages total place.position in
      let no_record = is_zero_word header_bytes in
      let header_page = page_of_byte size place.position 24 in
      let header = header_rows start place.prev header_bytes in
      let crc = crc_rows start whole in
      let opening = opening_rows size place bytes in
      let sizes = size_rows size None place.position no_record total in
      let upto_header = rows_of_pages size pages place total (start / 8192) header_page in
      let upto_last = rows_of_pages size pages place total header_page (page_of_byte size place.position total) in
      let parts = passes_both opening (sizes ++ rest_rows size pages place total) passes in
      let behind = passes_both sizes (rest_rows size pages place total) parts.1 in
      let of_crc = passes_both (upto_header ++ header ++ upto_last) crc behind.1 in
      let of_last = passes_both (upto_header ++ header) upto_last of_crc.0 in
      let of_header = passes_both upto_header header of_last.0 in
      let of_manager = passes_row (is_free_manager (slice_index header_bytes 17)) (damaged start damages.Rmgr) _ of_header.1 in
      let is_right = is_right_prev place.prev start (number_at w64 header_bytes 8) in
      let of_prev = passes_row (not is_right) (damaged start (damages.Prev (record { 0 = number_at w64 header_bytes 8 }))) _ of_manager.1 in
      let is_crc = eqb (crc32c (drop 24 whole ++ take 20 whole)) (number_at w32 whole 20) in record {
        some_word = (passes_row no_record (ended size place.position) _ behind.0).0;
        right_prev = not-false is_right of_prev.0;
        right_crc = not-false is_crc (passes_row (not is_crc) (damaged start damages.Crc) _ of_crc.1).0;
        page = bytes;
        here = there;
        opens = parts.0;
        header_pages = of_header.0;
        last_pages = of_last.1;
        spelled = e;
      }

  found_on : (page : Option (List ℕ)) → pages (address_of size place.position / 8192) ≡ page → read_in size pages None place page ≡ Ok found → IsFoundAt size pages place found
  found_on None there e = absurd cc
  found_on (Some bytes) there e = found_where bytes there (first_fault (record_rows size pages None place bytes)) refl e

  pub found_at : read_at size pages None place ≡ Ok found → IsFoundAt size pages place found
  unfolding read_at
  found_at e = found_on (pages (address_of size place.position / 8192)) refl e
