use Rattle.std.proofs.Common.{◌≡◌, ◌-◌, ◌++◌}
use Rattle.waldump_text.specs.Statistics.{manager_line}
use Rattle.cluster_listing.specs.Statistics.{numbered_lines, row_of}
use Rattle.cluster_listing.proofs.statistics.push_managers.Given as goal

abbrev pub invariant-loop-rmid : goal.invariant-loop-rmid
invariant-loop-rmid l = l.text.items ++ numbered_lines manager_line (row_of l.rows) (256 - l.rmid) l.rmid ≡ l.initial.text.items ++ numbered_lines manager_line (row_of l.rows) 256 0
