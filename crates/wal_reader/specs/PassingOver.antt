-- A record with compressed images, at which a reader has stopped, read as its bytes are stored.
use Rattle.std.specs.Prelude.{◌≡◌, ℕ, ◌-◌, ◌*◌, ◌/◌, ◌^◌, min, List, ◌++◌, length, Bool, Option, Some, None, Result, Ok, Err}
use Rattle.std.specs.Int.{w32, w64}
use Rattle.byte_position.specs.Position.{address_of, position_of}
use Rattle.wal_spelling.specs.Numbers.{number_at}
use Rattle.wal_record.specs.Stored.{stored_of}
use Rattle.wal_page.specs.Page.{first_fault}
use Rattle.wal_reader.specs.declared.found.Answer.{Answer}
use Rattle.wal_reader.specs.declared.found.Answer.TheVariants as answers
use Rattle.wal_reader.specs.declared.found.FoundRecord.{FoundRecord}
use Rattle.wal_reader.specs.declared.log_reader.Reader.{Reader}
use Rattle.wal_reader.specs.declared.record_place.RecordPlace.{RecordPlace}
use Rattle.wal_reader.specs.declared.standing.ReadErr.{ReadErr}
use Rattle.wal_reader.specs.declared.standing.ReadErr.TheVariants as reading
use Rattle.wal_reader.specs.declared.standing.Standing.TheVariants.{At}
use Rattle.wal_reader.specs.declared.standing.Step.{Step}
use Rattle.wal_reader.specs.declared.standing.Step.TheVariants as steps
use Rattle.wal_reader.specs.Decodes.{crc_rows, ended, is_zero_word, opening_rows, page_of_byte, place_behind, rows_of_pages, size_rows}
use Rattle.wal_reader.specs.LogReader.{Knows, ReaderState, reader_state}
use Rattle.wal_reader.specs.Pages.{Pages, bytes_from}
use Rattle.wal_reader.specs.ReadAt.{found_or}
use Rattle.wal_reader.specs.Standings.{found_as}

-- where it is read again: at a whole word below address 2 ^ 60, with nothing known of what stands
-- before it
abbrev pub place_again : ℕ → ℕ → RecordPlace
place_again size at = record {
  position = min (position_of size at / 8) (2 ^ 57 - 1) * 8;
  prev = None;
  timeline = 0;
}

-- the checks behind that of its size: of the pages that have its bytes, and of these
abbrev pub rows_again : ℕ → Pages → RecordPlace → ℕ → List (Bool × Answer)
rows_again size pages place total =
    let start = address_of size place.position in
    rows_of_pages size pages place total (start / 8192) (page_of_byte size place.position total)
    ++ crc_rows start (bytes_from size pages total place.position)

-- the first row that holds, or else what its bytes say as they are stored
abbrev pub stored_or : ℕ → Pages → RecordPlace → ℕ → Option Answer → Result FoundRecord Answer
stored_or size pages place total (Some answer) = Err answer
stored_or size pages place total None =
    let whole = bytes_from size pages total place.position in
    found_or size place total (number_at w64 whole 8) (stored_of whole)

abbrev pub stored_in : ℕ → Pages → Option ℕ → RecordPlace → Option (List ℕ)
    → Result FoundRecord Answer
stored_in size pages end place None = Err (ended size place.position)
stored_in size pages end place (Some bytes) =
    let total = number_at w32 (bytes_from size pages 8 place.position) 0 in
    let no_record = is_zero_word (bytes_from size pages 24 place.position) in
    stored_or size pages place total
    (first_fault (opening_rows size place bytes
    ++ (size_rows size end place.position no_record total ++ rows_again size pages place total)))

-- the record at a place as it is stored, or what stands there instead
abbrev pub stored_at : ℕ → Pages → Option ℕ → RecordPlace → Result FoundRecord Answer
stored_at size pages end place =
    stored_in size pages end place (pages (address_of size place.position / 8192))

-- a reader passes over the record that starts at an address: it gives what is stored there, and
-- stands behind it
abbrev pub IsStoredNext : Pages → ReaderState → ReaderState → RecordPlace → Result Step ReadErr
    → Type 0
IsStoredNext pages old new place (Ok (steps.Record start end prev total value)) =
    let found = found_as start end prev total value in
    (stored_at old.size pages old.end place ≡ Ok found)
    × (new ≡ record old { standing = At (place_behind old.size pages place found) })
IsStoredNext pages old new place (Ok (steps.End at)) =
    stored_at old.size pages old.end place ≡ Err (answers.End at)
IsStoredNext pages old new place (Err (reading.Stopped stop)) =
    stored_at old.size pages old.end place ≡ Err (answers.Stopped stop)
IsStoredNext pages old new place (Err reading.Memory) = Unit {0}
IsStoredNext pages old new place (Err (reading.Disk faults)) = Unit {0}

pub record IsPassedOver (pages : Pages) (old new : Reader) (at : ℕ) (result : Result Step ReadErr)
    : Type 0 where
  pub knows : Knows new pages
  pub next : IsStoredNext pages (reader_state old) (reader_state new)
      (place_again (reader_state old).size at) result

-- a record was read from bytes that are stored so
pub record IsStoredRecord (found : FoundRecord) : Type 0 where
  pub bytes : List ℕ
  pub length_is : length bytes ≡ found.head.total
  pub stored : stored_of bytes ≡ Ok found.value

-- so was the record that a step gives
abbrev pub GivesStored : Step → Type 0
GivesStored (steps.Record start end prev total value) =
    IsStoredRecord (found_as start end prev total value)
GivesStored (steps.End at) = Unit {0}
