use Rattle.run_script.proofs.GeneratedScripts.{are_writable}
use Rattle.run_script.proofs.generated_laws.generated_lines_are_writable.Goals as goal

pub returns : goal.returns
returns c = are_writable
