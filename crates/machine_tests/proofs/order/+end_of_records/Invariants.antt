use Rattle.std.proofs.Common.{length}
use Rattle.machine_tests.proofs.order.+end_of_records.Given as goal

abbrev pub decreases-end_of_records : goal.decreases-end_of_records
decreases-end_of_records l = length l.order.now
