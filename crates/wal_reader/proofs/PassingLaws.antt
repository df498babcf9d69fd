-- A reader that passes over a record, by what is told.
use Rattle.std.proofs.Common.{◌≡◌, Option, Some, None, Err, refl}
use Rattle.std.specs.Prelude.{IfOk}
use Rattle.wal_reader.specs.declared.buffers.Buffers.{Buffers}
use Rattle.wal_reader.specs.declared.found.Answer.{Answer}
use Rattle.wal_reader.specs.declared.found.Answer.TheVariants as answers
use Rattle.wal_reader.specs.declared.record_place.RecordPlace.{RecordPlace}
use Rattle.wal_reader.specs.declared.standing.Standing.{Standing}
use Rattle.wal_reader.specs.declared.standing.Standing.TheVariants.{NotBegun, At, Stopped}
use Rattle.wal_reader.specs.LogReader.{ReaderState}
use Rattle.wal_reader.specs.Pages.{Pages}
use Rattle.wal_reader.specs.PassingOver.{GivesStored, IsStoredNext, stored_at}
use Rattle.wal_reader.specs.Ready.{IsReadyIn}
use Rattle.wal_reader.specs.Standings.{told}

-- where nothing is known of where the next record stands
pub ready_unknown : (standing : Standing) (buffers : Option Buffers) → IsReadyIn standing buffers None
ready_unknown NotBegun buffers = tt
ready_unknown (At at) None = refl
ready_unknown (At at) (Some held) = tt
ready_unknown (Stopped stop) buffers = tt

-- what stands in its place is told
pub StoredNext-told : (pages : Pages) (old new : ReaderState) (place : RecordPlace) (answer : Answer) → stored_at old.size pages old.end place ≡ Err answer → IsStoredNext pages old new place (told answer)
StoredNext-told pages old new place (answers.End at) stands = stands
StoredNext-told pages old new place (answers.Stopped stop) stands = stands

-- which is no record
pub GivesStored-told : (answer : Answer) → IfOk (told answer) GivesStored
GivesStored-told (answers.End at) = tt
GivesStored-told (answers.Stopped stop) = tt
