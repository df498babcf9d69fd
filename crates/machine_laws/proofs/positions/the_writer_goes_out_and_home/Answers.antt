use Rattle.machine_laws.proofs.PositionKept.{slot_out_keeps, slot_in_keeps}
use Rattle.machine_laws.proofs.positions.the_writer_goes_out_and_home.Goals as goal

pub returns-clause-slot_out : goal.returns-clause-slot_out
returns-clause-slot_out c = slot_out_keeps

pub returns-clause-slot_in : goal.returns-clause-slot_in
returns-clause-slot_in c = slot_in_keeps
