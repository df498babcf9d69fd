use Rattle.std.proofs.Common.{◌≡◌, ◌-◌, ◌++◌}
use Rattle.cluster_listing.specs.Statistics.{kind_line, numbered_lines, row_of}
use Rattle.cluster_listing.proofs.statistics.push_kinds.Given as goal

abbrev pub invariant-loop-kind : goal.invariant-loop-kind
invariant-loop-kind l = l.text.items ++ numbered_lines kind_line (row_of l.rows) (4096 - l.kind) l.kind ≡ l.initial.text.items ++ numbered_lines kind_line (row_of l.rows) 4096 0
