-- What is answered where a record is put into one that the caller has: together with that record.
use Rattle.std.specs.Prelude.{Result, Ok, Err}
use Rattle.wal_types.specs.declared.record.Record.{Record}
use Rattle.wal_reader.specs.declared.found.FoundRecord.{FoundRecord}
use Rattle.wal_reader.specs.declared.found.RecordHead.{RecordHead}
use Rattle.wal_reader.specs.declared.record_place.RecordPlace.{RecordPlace}
use Rattle.wal_reader.specs.declared.standing.Comes.{Comes}
use Rattle.wal_reader.specs.declared.standing.Comes.TheVariants as coming
use Rattle.wal_reader.specs.declared.standing.ReadErr.{ReadErr}
use Rattle.wal_reader.specs.declared.standing.Step.{Step}
use Rattle.wal_reader.specs.declared.standing.Step.TheVariants as steps

-- a record that was found, and carries this
abbrev pub found_with : Record → RecordHead → FoundRecord
found_with value head = record { head = head; value = value }

-- the same with the place behind it, or why none was found
abbrev pub read_with : {E : Type 0} → Record → Result (RecordHead × RecordPlace) E
    → Result (FoundRecord × RecordPlace) E
read_with value (Ok read) = Ok (found_with value read.0, read.1)
read_with value (Err e) = Err e

-- a step whose record was put into this one
abbrev pub step_with : Record → Result Comes ReadErr → Result Step ReadErr
step_with value (Ok (coming.Record head)) =
    Ok (steps.Record head.start head.end head.prev head.total value)
step_with value (Ok (coming.End at)) = Ok (steps.End at)
step_with value (Err error) = Err error
