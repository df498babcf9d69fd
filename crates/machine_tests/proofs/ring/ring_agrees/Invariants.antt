use Rattle.std.proofs.Common.{◌≢◌, ◌<◌, ℕ}
use Rattle.machine_state.specs.Words.{end_word}
use Rattle.machine_tests.specs.Ring.{PageAgrees}
use Rattle.machine_tests.proofs.ring.ring_agrees.Given as goal

abbrev pub invariant-loop-buffer : goal.invariant-loop-buffer
invariant-loop-buffer l = (k : ℕ) → k < l.buffer → end_word l.words k ≢ 0
    → PageAgrees l.setup l.words l.log l.backends k
