use Rattle.run_laws.proofs.Closing.{close}
use Rattle.run_laws.proofs.closed_logs.last_passes_leave_closed_logs.Goals as goal

pub returns : goal.returns
returns c = record { close = close }
