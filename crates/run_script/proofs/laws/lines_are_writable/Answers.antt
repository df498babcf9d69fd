use Rattle.run_script.proofs.Writing.{lines_are_writable}
use Rattle.run_script.proofs.laws.lines_are_writable.Goals as goal

pub returns : goal.returns
returns c = lines_are_writable
