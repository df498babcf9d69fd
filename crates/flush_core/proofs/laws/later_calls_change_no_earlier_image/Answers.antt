-- At an earlier moment the calls so far and the next one are the same.
use Rattle.flush_core.proofs.GrowingTapes.{LeftAt-before}
use Rattle.flush_core.proofs.laws.later_calls_change_no_earlier_image.Goals as goal

pub returns : goal.returns
returns c = LeftAt-before
