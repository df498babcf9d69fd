use Rattle.std.proofs.Common.{length}
use Rattle.machine_tests.proofs.order.+start_of_records.Given as goal

abbrev pub decreases-start_of_records : goal.decreases-start_of_records
decreases-start_of_records l = length l.order.now
