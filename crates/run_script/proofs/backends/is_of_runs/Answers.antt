use Rattle.std.proofs.Common.{arith}
use Rattle.std.proofs.lemmas.Grind.{common_steps}
use Rattle.run_script.proofs.Words.{is_of_runs-long}
use Rattle.run_script.proofs.backends.is_of_runs.Goals as goal

pub returns-in_default-3 : goal.returns-in_default-3
returns-in_default-3 c = grind (arith, common_steps, is_of_runs-long)
