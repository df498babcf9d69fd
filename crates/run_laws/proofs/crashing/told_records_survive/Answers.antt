use Rattle.run_laws.proofs.RunCrashes.{told_survive}
use Rattle.run_laws.proofs.crashing.told_records_survive.Goals as goal

pub returns : goal.returns
returns c = record { survive = told_survive }
