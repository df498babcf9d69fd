-- A pass that has all numbers of its log: none was split off yet, or all were taken in again. What
-- a state shows to it, where it does not know that the disk has failed.
use Rattle.std.specs.Prelude.{◌≡◌, ◌≢◌, ℕ, ◌%◌, ◌<◌, true, List}
use Rattle.machine_state.specs.Words.{Opening, position_word, lock_word, mapping_turn, write_turn}
use Rattle.machine_state.specs.Views.{Free, Reserving, View}
use Rattle.machine_state.specs.Failed.{KnowsOfFault}
use Rattle.machine_laws.specs.ClosedLogs.{HasAllNumbers}
use Rattle.machine_laws.specs.SoundLocks.{HasMappingTurn, HasTurnToWrite, HoldsLock}

-- a pass is live and has all numbers
pub record IsLone (opening : Opening) (v : View) : Type 0 where
  pub live : (v.reserving).live ≡ true
  pub numbers : HasAllNumbers (opening.setup).passes v.reserving

-- whatever is held or locked, this view has: the position, the turn to map, the turn to write, and,
-- where it knows of no fault, each lock. Behind a fault a copy may have been given up with its lock
pub record HasAllThatIsHeld (words : List ℕ) (v : View) : Type 0 where
  pub position : position_word words % 2 ≡ 1 → (v.reserving).place ≢ Free
  pub mapping : mapping_turn words ≢ 0 → HasMappingTurn v
  pub writing : write_turn words ≢ 0 → HasTurnToWrite v
  pub locks : (KnowsOfFault v → ⊥) → (lock : ℕ) → lock < 8 → lock_word words lock ≢ 0
      → HoldsLock lock v

-- a pass reserved what it had reserved, and took in nobody since
pub record HasSameEntries (old new : Reserving) : Type 0 where
  pub number : new.number ≡ old.number
  pub entries : new.entries ≡ old.entries
  pub joined : new.joined ≡ old.joined
