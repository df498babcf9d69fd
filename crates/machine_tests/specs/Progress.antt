-- What the locks tell of copies.
use Rattle.std.specs.Prelude.{ℕ, ◌+◌, ◌≤◌, All, List, Option, Some, None}
use Rattle.machine_state.specs.Words.{lock_word}
use Rattle.machine_turns.specs.declared.view.PlainFlight.{PlainFlight}
use Rattle.machine_turns.specs.declared.view.PlainFlight.TheVariants.{Landed, Copying}
use Rattle.machine_tests.specs.declared.moment.BackendNow.{BackendNow}

-- the most that the lock of a backend may tell: one more than the address of the next word that it
-- copies, or only that it is held
abbrev pub most_of : PlainFlight → ℕ
most_of Landed = 1
most_of (Copying start prev next end) = next + 1

-- where a backend has a lock, its word is at most this
abbrev pub TellsAtMost : List ℕ → Option ℕ → ℕ → Type 0
TellsAtMost words None most = Unit {0}
TellsAtMost words (Some lock) most = lock_word words lock ≤ most

-- no lock tells more than is copied
abbrev pub ProgressAgrees : List ℕ → List BackendNow → Type 0
ProgressAgrees words backends = All (λ b. TellsAtMost words b.lock (most_of b.view.flight)) backends
