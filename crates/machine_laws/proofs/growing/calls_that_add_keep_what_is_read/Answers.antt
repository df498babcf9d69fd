use Rattle.machine_laws.proofs.GrowthLaws.{loses_only, reads_whole, suited_loses_only}
use Rattle.machine_laws.proofs.growing.calls_that_add_keep_what_is_read.Goals as goal

pub returns : goal.returns
returns c = record {
  loses = λ size moment t since first m low. loses_only size moment m t low since first;
  whole = λ size moment t since first m low. reads_whole size moment m t low since first;
  suited = suited_loses_only;
}
