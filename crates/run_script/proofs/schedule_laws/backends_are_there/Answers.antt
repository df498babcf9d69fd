use Rattle.run_script.proofs.Turns.{backends_are_there}
use Rattle.run_script.proofs.schedule_laws.backends_are_there.Goals as goal

pub returns : goal.returns
returns c = backends_are_there
