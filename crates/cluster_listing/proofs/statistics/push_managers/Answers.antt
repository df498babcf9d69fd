use Rattle.std.proofs.Common.{arith}
use Rattle.waldump_text.specs.Statistics.{manager_line}
use Rattle.cluster_listing.specs.Statistics.{row_of}
use Rattle.cluster_listing.proofs.TallyLaws.{all_pushed, line_pushed}
use Rattle.cluster_listing.proofs.statistics.push_managers.Goals as goal

pub loop-rmid-preserved : goal.loop-rmid-preserved
loop-rmid-preserved c = line_pushed manager_line (row_of c.args.rows.now) 256 c.loop-rmid.rmid _ _ _ (omega arith) c.in_ok-push_manager.ensures c.loop-rmid.invariant

pub returns : goal.returns
returns c = all_pushed manager_line (row_of c.args.rows.now) 256 c.loop-rmid.rmid _ _ (omega arith) c.loop-rmid.invariant
