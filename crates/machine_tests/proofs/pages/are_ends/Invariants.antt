use Rattle.std.proofs.Common.{ℕ, ◌<◌}
use Rattle.machine_state.specs.Words.{end_word}
use Rattle.machine_tests.specs.Pages.{IsEndIn}
use Rattle.machine_tests.proofs.pages.are_ends.Given as goal

abbrev pub invariant-loop-buffer : goal.invariant-loop-buffer
invariant-loop-buffer l = (k : ℕ) → k < l.buffer
    → IsEndIn l.setup k (end_word l.words k)
