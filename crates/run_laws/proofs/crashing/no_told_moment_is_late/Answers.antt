use Rattle.run_laws.proofs.RunCrashes.{told_timely}
use Rattle.run_laws.proofs.crashing.no_told_moment_is_late.Goals as goal

pub returns : goal.returns
returns c = record { timely = told_timely }
