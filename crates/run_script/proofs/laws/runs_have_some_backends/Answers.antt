use Rattle.run_script.proofs.RunLaws.{runs_have_some_backends}
use Rattle.run_script.proofs.laws.runs_have_some_backends.Goals as goal

pub returns : goal.returns
returns c = runs_have_some_backends
