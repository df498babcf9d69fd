use Rattle.run_laws.proofs.RunTells.{run_tells}
use Rattle.run_laws.proofs.laws.lines_are_told_as_they_may_be.Goals as goal

pub returns : goal.returns
returns c = record { tells = run_tells }
