use Rattle.backend_cli.proofs.CompleteLaws.{handed_out_scripts_have_one_meaning}
use Rattle.backend_cli.proofs.laws.handed_out_scripts_have_one_meaning.Goals as goal

pub returns : goal.returns
returns c = handed_out_scripts_have_one_meaning
