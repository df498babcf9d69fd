-- What a try to take an insertion lock leaves (PostgreSQL's xlog.c, WALInsertLockAcquire).
use Rattle.std.specs.Prelude.{ℕ, ◌+◌, ◌%◌, ◌≡◌, ◌≢◌, ◌<◌, List, [], ◌∷◌, ◌++◌, slice_index}
use Rattle.machine_state.specs.Steps.{take_lock}
use Rattle.machine_state.specs.Views.{View}
use Rattle.wal_rule.specs.Stepping.{Meets}

-- the view that holds one lock more, and is else as it was
abbrev pub with_lock : ℕ → View → View
with_lock lock v = record v {
  working = record v.working { locks = (v.working).locks ++ lock ∷ [] };
}

-- words of locks that are held, each met where a pass with this view tried one lock: the one of its
-- number first, and then the next ones
abbrev pub HaveMetHeld : View → (tries : ℕ) → List ℕ → Type 0
HaveMetHeld v tries words = (tried : ℕ) → tried < tries → (slice_index words tried ≢ 0)
    × Meets v (take_lock (((v.reserving).number % 8 + tried) % 8)) (slice_index words tried)

-- eight words, of all locks
abbrev pub AreHeldWords : View → List ℕ → Type 0
AreHeldWords v words = HaveMetHeld v 8 words

-- a lock that a pass with this view took: those that were tried before it were held
pub record IsFirstFree (v : View) (lock : ℕ) : Type 0 where
  pub tried : ℕ
  pub words : List ℕ
  pub lock_is : lock ≡ ((v.reserving).number % 8 + tried) % 8
  pub few : tried < 8
  pub held : HaveMetHeld v tried words
