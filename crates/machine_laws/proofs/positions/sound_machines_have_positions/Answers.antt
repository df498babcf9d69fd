use Rattle.machine_laws.proofs.WholeMachine.{has_positions, holds_of_all}
use Rattle.machine_laws.proofs.positions.sound_machines_have_positions.Goals as goal

pub returns-clause-has_positions : goal.returns-clause-has_positions
returns-clause-has_positions c = λ first. has_positions

pub returns-clause-holds_of_all : goal.returns-clause-holds_of_all
returns-clause-holds_of_all c = holds_of_all
