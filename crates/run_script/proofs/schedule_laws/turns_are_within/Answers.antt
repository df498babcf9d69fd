use Rattle.run_script.proofs.Turns.{turns_are_within}
use Rattle.run_script.proofs.schedule_laws.turns_are_within.Goals as goal

pub returns : goal.returns
returns c = turns_are_within
