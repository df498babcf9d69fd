-- What reading one record answers.
use Rattle.std.specs.Prelude.{◌≡◌, ◌⊎◌, ℕ, ◌/◌, ◌<◌, List, Option, Some, None, Result, Ok, Err}
use Rattle.std.specs.Int.{w32, w64}
use Rattle.byte_position.specs.Position.{address_of, end_address_of}
use Rattle.wal_spelling.specs.Numbers.{number_at}
use Rattle.wal_record.specs.Reading.{reading_of}
use Rattle.wal_reader.specs.declared.found.Answer.{Answer}
use Rattle.wal_reader.specs.declared.found.FoundRecord.{FoundRecord}
use Rattle.wal_reader.specs.declared.record_place.RecordPlace.{RecordPlace}
use Rattle.wal_reader.specs.declared.read_failure.ReadFailure.{ReadFailure}
use Rattle.wal_reader.specs.declared.read_failure.ReadFailure.TheVariants as failures
use Rattle.wal_reader.specs.Pages.{Pages, bytes_from}
use Rattle.wal_reader.specs.PageCursor.{HoldsPassed}
use Rattle.wal_reader.specs.RecordPlace.{IsReachable}
use Rattle.wal_reader.specs.Decodes.{next_position, opening_fault, place_behind}
use Rattle.wal_reader.specs.ReadAt.{found_or}

-- the first check that fails, or else what a record's bytes say
abbrev pub said_of : ℕ → Pages → RecordPlace → ℕ → Option Answer → Result FoundRecord Answer
said_of size pages place total (Some answer) = Err answer
said_of size pages place total None =
    let whole = bytes_from size pages total place.position in
    found_or size place total (number_at w64 whole 8) (reading_of whole)

-- the place behind a record of so many bytes, which ends on a page of this timeline
abbrev pub behind_read : ℕ → RecordPlace → FoundRecord → ℕ → ℕ → RecordPlace
behind_read size at found total timeline = record {
  position = next_position size at.position total found.value;
  prev = Some found.head.start;
  timeline = timeline;
}

-- what was found, without the place behind it
abbrev pub without_place : Result (FoundRecord × RecordPlace) Answer → Result FoundRecord Answer
without_place (Ok read) = Ok read.0
without_place (Err answer) = Err answer

-- the record that was found, and the place behind it; or what stands in its place; a trouble says
-- nothing
abbrev pub IsRead : ℕ → Pages → RecordPlace → Result FoundRecord Answer
    → Result (FoundRecord × RecordPlace) ReadFailure → Type 0
IsRead size pages place here (Ok read) =
    (here ≡ Ok read.0) × (read.1 ≡ place_behind size pages place read.0)
IsRead size pages place here (Err failure) = IsFailed here failure
  where
    IsFailed : Result FoundRecord Answer → ReadFailure → Type 0
    IsFailed here (failures.Told answer) = here ≡ Err answer
    IsFailed here failures.Memory = Unit {0}
    IsFailed here failures.Disk = Unit {0}

-- the next place is further on, and one that can be reached
abbrev pub GoesOn : RecordPlace → RecordPlace → Type 0
GoesOn at next = (at.position < next.position) × IsReachable next

-- a place just behind a record, which it has as the one before
abbrev pub IsBehind : ℕ → FoundRecord → RecordPlace → Type 0
IsBehind size found at =
    (end_address_of size at.position ≡ found.head.end.0) × (at.prev ≡ Some found.head.start)

-- a room holds nothing but the first bytes of the record at a place, and all pages that have them
-- passed their checks
abbrev pub HoldsFront : ℕ → Pages → RecordPlace → List ℕ → Type 0
HoldsFront size pages place room =
    let total = number_at w32 (bytes_from size pages 8 place.position) 0 in
    let first = address_of size place.position / 8192 in
    (opening_fault size place (pages first) ≡ None) × HoldsPassed size pages place total first room

-- a room after reading at a place: as it was, or it holds first bytes of the record there
abbrev pub IsRoomAfter : ℕ → Pages → RecordPlace → List ℕ → List ℕ → Type 0
IsRoomAfter size pages place old new = (new ≡ old) ⊎ HoldsFront size pages place new

-- a room after a step: as it was, or it holds first bytes of one record
abbrev pub IsRoomAfterStep : ℕ → Pages → List ℕ → List ℕ → Type 0
IsRoomAfterStep size pages old new =
    (new ≡ old) ⊎ ((place : RecordPlace) × HoldsFront size pages place new)
