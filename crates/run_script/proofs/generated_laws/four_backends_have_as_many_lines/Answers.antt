use Rattle.run_script.proofs.GeneratedScripts.{length-each, length-generated_script}
use Rattle.run_script.proofs.generated_laws.four_backends_have_as_many_lines.Goals as goal

pub returns : goal.returns
returns c = λ n. (length-generated_script n, length-each n)
