use Rattle.run_laws.proofs.LastFlush.{left_whole}
use Rattle.run_laws.proofs.endings.runs_leave_whole_logs.Goals as goal

pub returns : goal.returns
returns c = record { whole = left_whole }
