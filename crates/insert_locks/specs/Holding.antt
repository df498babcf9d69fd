-- Insertion locks that a pass holds, what it may tell under them, and when it may give them back
-- (PostgreSQL's xlog.c, holdingAllLocks, WALInsertLockUpdateInsertingAt, WALInsertLockRelease).
use Rattle.std.specs.Prelude.{◌≡◌, ℕ, zero, suc, ◌+◌, ◌<◌, ◌≤◌, Contains, List, [], ◌∷◌, length}
use Rattle.wal_page.specs.EntryWords.{words_owned}
use Rattle.machine_state.specs.declared.setup.Setup.{Setup}
use Rattle.machine_state.specs.Moves.{with_told}
use Rattle.machine_state.specs.Steps.{advance, MayStep}
use Rattle.machine_state.specs.Views.{Copying, Flight, Landed, View}
use Rattle.wal_rule.specs.declared.seated.SeatedPass.{SeatedPass}
use Rattle.wal_rule.specs.SeatedPasses.{HasView, view_of}

-- so many locks, from this one on
abbrev pub lock_run : (first count : ℕ) → List ℕ
lock_run first zero = []
lock_run first (suc count) = first ∷ lock_run (first + 1) count

-- each is one of the eight
abbrev pub AreLocks : List ℕ → Type 0
AreLocks locks = (lock : ℕ) → Contains locks lock → lock < 8

-- the address may be told under each
abbrev pub MayTell : List ℕ → ℕ → View → Type 0
MayTell locks upto v = (lock : ℕ) → Contains locks lock → MayStep v (advance lock upto)

-- of a pass only what it told has changed: this address, under each of these locks at least
pub record HasTold {D : Type 0} (locks : List ℕ) (upto : ℕ) (old new : SeatedPass D) : Type 0 where
  pub under : List ℕ
  pub each : (lock : ℕ) → Contains locks lock → Contains under lock
  pub view : HasView (with_told upto under (view_of old)) old new

-- nothing is left to copy under these locks: nothing is in flight, or an entry stands under just
-- these, of which there is one at least, with each of its words copied
abbrev pub NothingLeft : Setup → List ℕ → Flight → Type 0
NothingLeft setup locks Landed = Unit {0}
NothingLeft setup locks (Copying c) = (c.locks ≡ locks) × (1 ≤ length locks)
    × (c.copied ≡ words_owned setup.seg_size c.entry)
