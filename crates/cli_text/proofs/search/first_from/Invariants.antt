use Rattle.std.proofs.Common.{◌≤◌, ◌-◌, length}
use Rattle.cli_text.specs.Parts.{LacksBefore}
use Rattle.cli_text.proofs.search.first_from.Given as goal

abbrev pub invariant-loop-end : goal.invariant-loop-end
invariant-loop-end l = (l.end ≤ length l.text) × LacksBefore l.separator l.text l.end

abbrev pub decreases-loop-end : goal.decreases-loop-end
decreases-loop-end l = length l.text - l.end
