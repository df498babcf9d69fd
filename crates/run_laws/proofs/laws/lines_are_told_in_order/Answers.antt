use Rattle.run_laws.proofs.RunOrder.{told_rise}
use Rattle.run_laws.proofs.laws.lines_are_told_in_order.Goals as goal

pub returns : goal.returns
returns c = record { rise = told_rise }
