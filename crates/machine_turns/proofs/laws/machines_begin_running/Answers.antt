use Rattle.machine_turns.proofs.FirstMachine.{runs_first}
use Rattle.machine_turns.proofs.laws.machines_begin_running.Goals as goal

pub returns : goal.returns
returns c = λ first opening words writer. runs_first opening words writer first
