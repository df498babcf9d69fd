use Rattle.run_script.proofs.ReplayLaws.{some_backends_are_there}
use Rattle.run_script.proofs.laws.some_backends_are_there.Goals as goal

pub returns : goal.returns
returns c = some_backends_are_there
