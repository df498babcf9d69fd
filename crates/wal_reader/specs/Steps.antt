-- The next record that is given, of those that are read.
use Rattle.std.specs.Prelude.{◌≡◌, ℕ, ◌<◌, List, [], ◌∷◌, filter, nat_le, Option, Some, None, Result, Ok, Err}
use Rattle.wal_reader.specs.declared.found.FoundRecord.{FoundRecord}
use Rattle.wal_reader.specs.declared.found.Answer.{Answer}
use Rattle.wal_reader.specs.declared.record_place.RecordPlace.{RecordPlace}
use Rattle.wal_reader.specs.declared.read_failure.ReadFailure.{ReadFailure}
use Rattle.wal_reader.specs.declared.read_failure.ReadFailure.TheVariants as failures
use Rattle.wal_reader.specs.Decodes.{ReadsRecords, Decodes}
use Rattle.wal_reader.specs.Pages.{Pages}
use Rattle.wal_reader.specs.RecordRead.{GoesOn}
use Rattle.wal_reader.specs.RecordPlace.{IsReachable}

-- from a place on these records at or behind `start` are read, and then this answer comes
pub record GivesFrom (size : ℕ) (pages : Pages) (start : ℕ) (end : Option ℕ) (place : RecordPlace)
    (found : List FoundRecord) (answer : Answer) : Type 0 where
  pub read : List FoundRecord
  pub reads : ReadsRecords size pages end place read answer
  pub given : found ≡ filter (λ f. nat_le start f.head.start.0) read

-- what comes from a place on, or where reading has not begun from where it begins
abbrev pub Comes : ℕ → Pages → ℕ → Option ℕ → Option RecordPlace → List FoundRecord → Answer
    → Type 0
Comes size pages start end None found answer = Decodes size pages start end found answer
Comes size pages start end (Some at) found answer =
    GivesFrom size pages start end at found answer

-- a record is the next that comes, or this answer comes
abbrev pub ComesNext : ℕ → Pages → ℕ → Option ℕ → Option RecordPlace
    → Result (FoundRecord × RecordPlace) ReadFailure → Type 0
ComesNext size pages start end from (Ok (found, next)) =
    (others : List FoundRecord) (answer : Answer)
    → GivesFrom size pages start end next others answer
    → Comes size pages start end from (found ∷ others) answer
ComesNext size pages start end from (Err (failures.Told answer)) =
    Comes size pages start end from [] answer
ComesNext size pages start end from (Err failures.Memory) = Unit {0}
ComesNext size pages start end from (Err failures.Disk) = Unit {0}

-- a record that is found leaves a place further on
abbrev pub IsFurther : Option RecordPlace → RecordPlace → Type 0
IsFurther None next = (0 < next.position) × IsReachable next
IsFurther (Some at) next = GoesOn at next
