use Rattle.run_laws.proofs.ReadWhole.{whole}
use Rattle.run_laws.proofs.closed_logs.closed_logs_are_whole.Goals as goal

pub returns : goal.returns
returns c = record { whole = whole }
