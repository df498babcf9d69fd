use Rattle.run_script.proofs.ReplayLaws.{turns_are_within}
use Rattle.run_script.proofs.laws.turns_are_within.Goals as goal

pub returns : goal.returns
returns c = turns_are_within
