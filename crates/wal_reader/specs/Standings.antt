-- Where a log's reader stands, and what a step of it tells.
use Rattle.std.specs.Prelude.{◌≡◌, ℕ, ◌-◌, ◌%◌, ◌^◌, ◌<◌, Result, Ok, Err}
use Rattle.std.specs.Coded.{Coded-set, coded_ℕ, ×_prop, Unit-prop, le_prop}
use Rattle.segment_disk.specs.Cause.{RoseByOne}
use Rattle.wal_types.specs.declared.lsn.Lsn.{Lsn}
use Rattle.wal_types.specs.declared.record.Record.{Record}
use Rattle.wal_reader.specs.declared.found.FoundRecord.{FoundRecord}
use Rattle.wal_reader.specs.declared.found.Answer.{Answer}
use Rattle.wal_reader.specs.declared.found.Answer.TheVariants as answers
use Rattle.wal_reader.specs.declared.standing.Standing.{Standing}
use Rattle.wal_reader.specs.declared.standing.Standing.TheVariants.{NotBegun, At, Stopped}
use Rattle.wal_reader.specs.declared.standing.Step.{Step}
use Rattle.wal_reader.specs.declared.standing.Step.TheVariants as steps
use Rattle.wal_reader.specs.declared.standing.ReadErr.{ReadErr}
use Rattle.wal_reader.specs.declared.standing.ReadErr.TheVariants as reading

-- a reader that is before a record stands where reading comes to: at a whole word, below address 2
-- ^ 60
abbrev pub IsOnWay : Standing → Type 0
IsOnWay NotBegun = Unit {0}
IsOnWay (At at) = (at.position % 8 ≡ 0) × (at.position < 2 ^ 60)
IsOnWay (Stopped stop) = Unit {0}

pub IsOnWay-prop : (standing : Standing) → IsProp (IsOnWay standing)
IsOnWay-prop NotBegun = Unit-prop
IsOnWay-prop (At at) = ×_prop (Coded-set coded_ℕ (at.position % 8) 0) le_prop
IsOnWay-prop (Stopped stop) = Unit-prop

-- how much of the log is still before a reader
abbrev pub left_at : Standing → ℕ
left_at NotBegun = 2 ^ 60
left_at (At place) = 2 ^ 60 - place.position
left_at (Stopped stop) = 0

-- a record as a step gives it
abbrev pub given_as : FoundRecord → Step
given_as found =
    steps.Record found.head.start found.head.end found.head.prev found.head.total found.value

-- the record that a step gives
abbrev pub found_as : Lsn → Lsn → Lsn → ℕ → Record → FoundRecord
found_as start end prev total value =
    record {
      head = record { start = start; end = end; prev = prev; total = total };
      value = value;
    }

-- an answer as a step tells it
abbrev pub told : Answer → Result Step ReadErr
told (answers.End at) = Ok (steps.End at)
told (answers.Stopped stop) = Err (reading.Stopped stop)

-- what an answer leaves of a standing: an end is no more than told, a stop is told for good
abbrev pub standing_after : Standing → Answer → Standing
standing_after standing (answers.End at) = standing
standing_after standing (answers.Stopped stop) = Stopped stop

-- a reader that has stopped tells its answer again, and leaves the disk alone
abbrev pub IsToldAgain : {D : Type 0} → Standing → Result Step ReadErr → D → D → Type 0
IsToldAgain NotBegun result old new = Unit {0}
IsToldAgain (At place) result old new = Unit {0}
IsToldAgain (Stopped stop) result old new = (result ≡ Err (reading.Stopped stop)) × (new ≡ old)

-- the disk's count of faults: it rises only where the disk failed, by one, and is told there
abbrev pub HasReadCause : ℕ → ℕ → Result Step ReadErr → Type 0
HasReadCause old new (Ok step) = new ≡ old
HasReadCause old new (Err reading.Memory) = new ≡ old
HasReadCause old new (Err (reading.Disk faults)) = RoseByOne old new × (faults ≡ new)
HasReadCause old new (Err (reading.Stopped stop)) = new ≡ old
