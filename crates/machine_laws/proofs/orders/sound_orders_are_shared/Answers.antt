use Rattle.machine_laws.proofs.OrderSharing.{shared as order_is_shared}
use Rattle.machine_laws.proofs.orders.sound_orders_are_shared.Goals as goal

pub returns : goal.returns
returns c = record { shared = λ first. order_is_shared }
