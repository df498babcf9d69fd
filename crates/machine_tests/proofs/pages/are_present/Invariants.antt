use Rattle.std.proofs.Common.{◌+◌, ◌*◌, ℕ, ◌<◌}
use Rattle.machine_state.specs.Shown.{IsPresent}
use Rattle.machine_tests.proofs.pages.are_present.Given as goal

abbrev pub invariant-loop-page : goal.invariant-loop-page
invariant-loop-page l = (k : ℕ) → k < l.page → l.written < (k + 1) * 8192
    → IsPresent l.setup l.words k
