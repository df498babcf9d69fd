use Rattle.std.proofs.Common.{length}
use Rattle.machine_tests.proofs.order.+follow_on.Given as goal

abbrev pub decreases-follow_on : goal.decreases-follow_on
decreases-follow_on l = length l.order.now
