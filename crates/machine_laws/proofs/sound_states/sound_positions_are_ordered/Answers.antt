use Rattle.machine_laws.proofs.PositionLaws.{positions_are_ordered}
use Rattle.machine_laws.proofs.sound_states.sound_positions_are_ordered.Goals as goal

pub returns : goal.returns
returns c = record { positions = λ first. positions_are_ordered }
