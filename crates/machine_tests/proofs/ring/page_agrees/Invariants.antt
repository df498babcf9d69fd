use Rattle.std.proofs.Common.{◌+◌, ◌-◌, ◌*◌, ◌<◌, ℕ}
use Rattle.machine_state.specs.Words.{end_word, word_of_ring}
use Rattle.machine_tests.specs.Ring.{IsLoggedOrToCopy}
use Rattle.machine_tests.proofs.ring.page_agrees.Given as goal

abbrev pub invariant-loop-n : goal.invariant-loop-n
invariant-loop-n l = (k : ℕ) → k < l.n → IsLoggedOrToCopy l.setup l.log l.backends
    (end_word l.words l.buffer - 8192 + 8 * k) (word_of_ring l.setup l.words (l.buffer * 1024 + k))
