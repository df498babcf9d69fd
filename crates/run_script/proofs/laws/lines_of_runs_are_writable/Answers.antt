use Rattle.run_script.proofs.RunLaws.{lines_of_runs_are_writable}
use Rattle.run_script.proofs.laws.lines_of_runs_are_writable.Goals as goal

pub returns : goal.returns
returns c = lines_of_runs_are_writable
