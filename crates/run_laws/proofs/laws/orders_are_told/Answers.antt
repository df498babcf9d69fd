use Rattle.run_laws.proofs.RunOrder.{told_order}
use Rattle.run_laws.proofs.laws.orders_are_told.Goals as goal

pub returns : goal.returns
returns c = record { order = told_order }
