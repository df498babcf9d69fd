use Rattle.run_script.proofs.ReplayLaws.{replays_ask_for_nothing_behind}
use Rattle.run_script.proofs.laws.replays_ask_for_nothing_behind.Goals as goal

pub returns : goal.returns
returns c = replays_ask_for_nothing_behind
