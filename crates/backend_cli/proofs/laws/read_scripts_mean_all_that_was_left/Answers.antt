use Rattle.backend_cli.proofs.ScriptReading.{read_script_means}
use Rattle.backend_cli.proofs.laws.read_scripts_mean_all_that_was_left.Goals as goal

pub returns : goal.returns
returns c = read_script_means
