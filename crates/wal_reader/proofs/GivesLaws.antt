-- What a reader gives, one record before the other.
use Rattle.std.proofs.Common.{◌≡◌, ℕ, ◌<◌, ◌≤◌, leb, List, [], ◌∷◌, filter, Option, Some, None, Result, Ok, Err, refl, sym, ap, ◌∙◌, subst}
use Rattle.std.proofs.lemmas.Bool.{cond-true, cond-false, le-leb, lt-leb}
use Rattle.wal_reader.specs.declared.found.FoundRecord.{FoundRecord}
use Rattle.wal_reader.specs.declared.found.Answer.{Answer}
use Rattle.wal_reader.specs.Pages.{Pages}
use Rattle.wal_reader.specs.Decodes.{ReadsFrom, Decodes, beginning, place_behind}
use Rattle.wal_reader.specs.ReadAt.{read_at}
use Rattle.wal_reader.specs.RecordRead.{IsRead}
use Rattle.wal_reader.proofs.ReadAtLaws.{reads_at}
use Rattle.wal_reader.specs.Steps.{GivesFrom, ComesNext}
use Rattle.wal_reader.specs.declared.record_place.RecordPlace.{RecordPlace}
use Rattle.wal_reader.specs.declared.read_failure.ReadFailure.{ReadFailure}
use Rattle.wal_reader.specs.declared.read_failure.ReadFailure.TheVariants.{Told, Memory, Disk}

module _ (size : ℕ) (pages : Pages) (start : ℕ) (end : Option ℕ) where
  abbrev given : List FoundRecord → List FoundRecord
  given read = filter (λ f. leb start f.head.start.0) read

  module _ (place : RecordPlace) where
    -- nothing stands at a place
    pub GivesFrom-stop : (answer : Answer) → read_at size pages end place ≡ Err answer → GivesFrom size pages start end place [] answer
    GivesFrom-stop answer stops = record { read = []; reads = reads_at size pages end place (Err answer) stops; given = refl }

    module _ (found : FoundRecord) (next : RecordPlace) (reads : read_at size pages end place ≡ Ok found) (behind : next ≡ place_behind size pages place found) (others : List FoundRecord) (answer : Answer) (rest : GivesFrom size pages start end next others answer) where
      -- a record before the start is passed over
      pub GivesFrom-passed : found.head.start.0 < start → GivesFrom size pages start end place others answer
      GivesFrom-passed before = record {
        read = found ∷ rest.read;
        reads = (reads_at size pages end place (Ok found) reads, rw behind at rest.reads);
        given = rest.given ∙ sym (cond-false _ (found ∷ given rest.read) (given rest.read) (lt-leb start found.head.start.0 before));
      }

      -- a record from the start on is given
      pub GivesFrom-given : start ≤ found.head.start.0 → GivesFrom size pages start end place (found ∷ others) answer
      GivesFrom-given at = record {
        read = found ∷ rest.read;
        reads = (reads_at size pages end place (Ok found) reads, rw behind at rest.reads);
        given = ap (λ (fs : List FoundRecord). found ∷ fs) rest.given ∙ sym (cond-true _ (found ∷ given rest.read) (given rest.read) (le-leb start found.head.start.0 at));
      }

  -- pages decode to what comes from where reading begins
  pub Decodes-begun : (place : RecordPlace) (found : List FoundRecord) (answer : Answer) → beginning size pages start ≡ Ok place → GivesFrom size pages start end place found answer → Decodes size pages start end found answer
  Decodes-begun place found answer begins gives = record {
    read = gives.read;
    reads = subst (λ (begun : Result RecordPlace Answer). ReadsFrom size pages end begun gives.read answer) (sym begins) gives.reads;
    given = gives.given;
  }

-- where what comes from one place comes from another, a stop at the first is one at the other
pub ComesNext-stopped : (size : ℕ) (pages : Pages) (start : ℕ) (end : Option ℕ) (from at : RecordPlace) (stop : ReadFailure) → ((others : List FoundRecord) (answer : Answer) → GivesFrom size pages start end at others answer → GivesFrom size pages start end from others answer) → IsRead size pages at (read_at size pages end at) (Err stop) → ComesNext size pages start end (Some from) (Err stop)
ComesNext-stopped size pages start end from at (Told answer) comes reads = comes [] answer (GivesFrom-stop size pages start end at answer reads)
ComesNext-stopped size pages start end from at Memory comes reads = tt
ComesNext-stopped size pages start end from at Disk comes reads = tt

-- what comes next from where reading begins comes next of all
pub ComesNext-begun : (size : ℕ) (pages : Pages) (start : ℕ) (end : Option ℕ) (at : RecordPlace) (result : Result (FoundRecord × RecordPlace) ReadFailure) → beginning size pages start ≡ Ok at → ComesNext size pages start end (Some at) result → ComesNext size pages start end None result
ComesNext-begun size pages start end at (Ok (found, next)) begins comes = λ others answer rest. Decodes-begun size pages start end at (found ∷ others) answer begins (comes others answer rest)
ComesNext-begun size pages start end at (Err (Told answer)) begins comes = Decodes-begun size pages start end at [] answer begins comes
ComesNext-begun size pages start end at (Err Memory) begins comes = tt
ComesNext-begun size pages start end at (Err Disk) begins comes = tt
