use Rattle.run_laws.proofs.ClosedRuns.{flushed_whole}
use Rattle.run_laws.proofs.closed.flushed_runs_are_whole.Goals as goal

pub returns : goal.returns
returns g c = record { whole = flushed_whole }
