use Rattle.run_script.proofs.ReplayLaws.{turns_are_of_backends}
use Rattle.run_script.proofs.laws.turns_are_of_backends.Goals as goal

pub returns : goal.returns
returns c = turns_are_of_backends
