use Rattle.std.proofs.Common.{◌≡◌}
use Rattle.machine_tests.specs.Pages.{highest_end}
use Rattle.machine_tests.proofs.pages.highest_end.Given as goal

abbrev pub invariant-loop-buffer : goal.invariant-loop-buffer
invariant-loop-buffer l = l.highest ≡ highest_end l.words l.buffer
