-- What the calls of the device leave of the writer where they succeed.
use Rattle.std.specs.Prelude.{◌≡◌, ◌⊎◌, ℕ, ◌/◌, ◌≤◌, max}
use mathlib.Core.Option.{none, some}
use Rattle.byte_position.specs.Geometry.{pages_of}
use Rattle.flush_core.specs.Calls.{page_upto, waiting_behind}
use Rattle.machine_state.specs.Views.{Plain}

-- the page under way is written up to its end, or to what is known to be copied. Its segment is
-- there, and waits for a sync, or nothing does where it ends there
pub record IsPageWritten (size known : ℕ) (old new : Plain) : Type 0 where
  pub up : new.fault ≡ none
  pub written : new.written ≡ page_upto known (old.written / 8192)
  pub made : new.made ≡ max old.made (old.written / 8192 / pages_of size)
  pub waiting : new.waiting ≡ waiting_behind size new.written

-- no write waits for a sync, or only those to this segment, which is there
abbrev pub WaitsForNoOther : ℕ → Plain → Type 0
WaitsForNoOther segment w =
    (w.waiting ≡ none) ⊎ ((w.waiting ≡ some segment) × (segment ≤ w.made))

-- the same behind a call or none
pub record LeavesAlone (segment : ℕ) (old new : Plain) : Type 0 where
  pub up : new.fault ≡ none
  pub written : new.written ≡ old.written
  pub made : new.made ≡ old.made
  pub alone : WaitsForNoOther segment new

-- a segment is there, as one that was made before or as the last, and no write to another one waits
pub record IsSegmentThere (segment : ℕ) (old new : Plain) : Type 0 where
  pub up : new.fault ≡ none
  pub written : new.written ≡ old.written
  pub made : new.made ≡ max old.made segment
  pub alone : (new.waiting ≡ none) ⊎ (new.waiting ≡ some segment)

-- a segment was made
pub record IsSegmentMade (segment : ℕ) (old new : Plain) : Type 0 where
  pub up : new.fault ≡ none
  pub written : new.written ≡ old.written
  pub made : new.made ≡ segment
  pub waiting : new.waiting ≡ old.waiting

-- a page of a segment was written up to an address
pub record IsPagePut (segment upto : ℕ) (old new : Plain) : Type 0 where
  pub up : new.fault ≡ none
  pub written : new.written ≡ upto
  pub made : new.made ≡ old.made
  pub waiting : new.waiting ≡ some segment

-- behind a page that was written up to an address its segment is synced where it ends there: no
-- other waits for a sync
pub record IsSettledBehind (size upto : ℕ) (old new : Plain) : Type 0 where
  pub up : new.fault ≡ none
  pub written : new.written ≡ old.written
  pub made : new.made ≡ old.made
  pub waiting : new.waiting ≡ waiting_behind size upto

-- as much is written as before, and no write waits for a sync
pub record IsSegmentSynced (old new : Plain) : Type 0 where
  pub up : new.fault ≡ none
  pub written : new.written ≡ old.written
  pub made : new.made ≡ old.made
  pub waiting : new.waiting ≡ none
