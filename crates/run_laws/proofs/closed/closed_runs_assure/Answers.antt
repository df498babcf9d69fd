use Rattle.run_laws.proofs.ClosedRuns.{run_assures, run_assures_behind}
use Rattle.run_laws.proofs.closed.closed_runs_assure.Goals as goal

pub returns-clause-assure : goal.returns-clause-assure
returns-clause-assure g c = run_assures

pub returns-clause-behind : goal.returns-clause-behind
returns-clause-behind g c = run_assures_behind
