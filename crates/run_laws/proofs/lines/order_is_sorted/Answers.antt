use Rattle.run_laws.proofs.Orders.{order_is_sorted}
use Rattle.run_laws.proofs.lines.order_is_sorted.Goals as goal

pub returns : goal.returns
returns c = order_is_sorted
