use Rattle.run_script.proofs.Turns.{items_are_playable}
use Rattle.run_script.proofs.schedule_laws.items_are_playable.Goals as goal

pub returns : goal.returns
returns c = items_are_playable
