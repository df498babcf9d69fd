-- What reading a record answers: by itself, and by the pages that it is read from.
use Rattle.std.specs.Prelude.{ℕ, IfOk, List, Option, Result}
use Rattle.wal_reader.specs.declared.found.FoundRecord.{FoundRecord}
use Rattle.wal_reader.specs.declared.read_failure.ReadFailure.{ReadFailure}
use Rattle.wal_reader.specs.declared.record_place.RecordPlace.{RecordPlace}
use Rattle.wal_reader.specs.Pages.{Pages}
use Rattle.wal_reader.specs.ReadAt.{read_at}
use Rattle.wal_reader.specs.RecordRead.{IsBehind, IsRead, IsRoomAfter, IsRoomAfterStep}
use Rattle.wal_reader.specs.Spelled.{IsSpelled, IsSpelledIn}
use Rattle.wal_reader.specs.Steps.{ComesNext, IsFurther}

-- a record that is answered is spelled by some bytes, and the place just behind it lies further on
-- than where reading began
pub record IsAnswered (from : Option RecordPlace) (size : ℕ) (read : FoundRecord × RecordPlace)
    : Type 0 where
  pub further : IsFurther from read.1
  pub behind : IsBehind size read.0 read.1
  pub spelled : IsSpelled read.0

-- what these pages have at a place is answered: a record is spelled by its bytes in them, and the
-- room has nothing but first bytes of it, of pages that passed
pub record IsReadIn (size : ℕ) (pages : Pages) (end : Option ℕ) (at : RecordPlace)
    (old_room new_room : List ℕ) (result : Result (FoundRecord × RecordPlace) ReadFailure)
    : Type 0 where
  pub reads : IsRead size pages at (read_at size pages end at) result
  pub spelled : IfOk result (λ read. IsSpelledIn size pages read.0)
  pub room : IsRoomAfter size pages at old_room new_room

-- the same of what comes next in these pages from a place on
pub record IsNextIn (size : ℕ) (pages : Pages) (start : ℕ) (end : Option ℕ)
    (from : Option RecordPlace) (old_room new_room : List ℕ)
    (result : Result (FoundRecord × RecordPlace) ReadFailure) : Type 0 where
  pub next : ComesNext size pages start end from result
  pub spelled : IfOk result (λ read. IsSpelledIn size pages read.0)
  pub room : IsRoomAfterStep size pages old_room new_room
