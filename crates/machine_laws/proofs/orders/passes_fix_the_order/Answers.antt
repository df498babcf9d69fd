use Rattle.machine_laws.proofs.OrderUnique.{one_order as there_is_one}
use Rattle.machine_laws.proofs.orders.passes_fix_the_order.Goals as goal

pub returns : goal.returns
returns c = record { one_order = there_is_one }
