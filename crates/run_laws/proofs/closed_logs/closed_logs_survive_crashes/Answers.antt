use Rattle.run_laws.proofs.Fronts.{survive}
use Rattle.run_laws.proofs.closed_logs.closed_logs_survive_crashes.Goals as goal

pub returns : goal.returns
returns c = record { survive = survive }
