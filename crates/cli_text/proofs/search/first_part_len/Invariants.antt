use Rattle.std.proofs.Common.{◌≤◌, ◌-◌, length}
use Rattle.cli_text.specs.Parts.{LacksBefore}
use Rattle.cli_text.proofs.search.first_part_len.Given as goal

abbrev pub invariant-loop-passed : goal.invariant-loop-passed
invariant-loop-passed l = (l.passed ≤ length l.text) × LacksBefore l.separator l.text l.passed

abbrev pub decreases-loop-passed : goal.decreases-loop-passed
decreases-loop-passed l = length l.text - l.passed
