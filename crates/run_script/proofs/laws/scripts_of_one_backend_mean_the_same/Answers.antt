use Rattle.run_script.proofs.RunLaws.{scripts_of_one_backend_mean_the_same}
use Rattle.run_script.proofs.laws.scripts_of_one_backend_mean_the_same.Goals as goal

pub returns : goal.returns
returns c = scripts_of_one_backend_mean_the_same
