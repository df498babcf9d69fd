use Rattle.machine_laws.proofs.OrderKept.{store_position_keeps}
use Rattle.machine_laws.proofs.orders.orders_grow_by_one_entry.Goals as goal

pub returns : goal.returns
returns c = record { store_position = store_position_keeps }
