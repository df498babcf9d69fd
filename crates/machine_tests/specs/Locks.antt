-- Who holds the insertion locks.
use Rattle.std.specs.Prelude.{◌≡◌, ℕ, ◌<◌, Bool, false, List, Option, Some, None, ◌==◌, if◌then◌else◌}
use Rattle.std.specs.List.{count_by}
use Rattle.machine_state.specs.Words.{lock_word}
use Rattle.machine_tests.specs.declared.moment.BackendNow.{BackendNow}

-- whether a lock that a backend has is this one
abbrev pub is_lock : ℕ → Option ℕ → Bool
is_lock lock None = false
is_lock lock (Some other) = other == lock

-- how many backends hold a lock
abbrev pub held_by : ℕ → List BackendNow → ℕ
held_by lock backends = count_by (λ b. is_lock lock b.lock) backends

-- a lock's word is 0 where no backend holds it, and not 0 where one does; no two do
abbrev pub LocksAgree : List ℕ → List BackendNow → Type 0
LocksAgree words backends = (lock : ℕ) → lock < 8
    → held_by lock backends ≡ (if lock_word words lock == 0 then 0 else 1)
