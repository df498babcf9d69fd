use Rattle.std.proofs.Common.{arith}
use Rattle.cluster_listing.specs.Statistics.{kind_line, row_of}
use Rattle.cluster_listing.proofs.TallyLaws.{all_pushed, line_pushed}
use Rattle.cluster_listing.proofs.statistics.push_kinds.Goals as goal

pub loop-kind-preserved : goal.loop-kind-preserved
loop-kind-preserved c = line_pushed kind_line (row_of c.args.rows.now) 4096 c.loop-kind.kind _ _ _ (omega arith) c.in_ok-push_kind.ensures c.loop-kind.invariant

pub returns : goal.returns
returns c = all_pushed kind_line (row_of c.args.rows.now) 4096 c.loop-kind.kind _ _ (omega arith) c.loop-kind.invariant
