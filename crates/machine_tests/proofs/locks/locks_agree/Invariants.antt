use Rattle.std.proofs.Common.{◌≡◌, ◌<◌, ◌==◌, if◌then◌else◌, ℕ}
use Rattle.machine_state.specs.Words.{lock_word}
use Rattle.machine_tests.specs.Locks.{held_by}
use Rattle.machine_tests.proofs.locks.locks_agree.Given as goal

abbrev pub invariant-loop-lock : goal.invariant-loop-lock
invariant-loop-lock l = (k : ℕ) → k < l.lock
    → held_by k l.backends ≡ (if lock_word l.words k == 0 then 0 else 1)
