use Rattle.run_laws.proofs.Risen.{risen}
use Rattle.run_laws.proofs.closed_logs.logs_rise_in_the_order.Goals as goal

pub returns : goal.returns
returns c = record { rise = risen }
