use Rattle.std.proofs.Common.{refl}
use Rattle.machine_state.specs.Moves.{looked, ready}
use Rattle.machine_laws.proofs.MappingLaws.{mapping_goes_on, mapping_moved, looked_keeps, ready_keeps}
use Rattle.machine_laws.proofs.turns.the_mapping_turn_has_the_stage_of_its_holder.Goals as goal

pub returns-clause-its : goal.returns-clause-its
returns-clause-its c = λ turn stage mappers id m k here has. (k.each id m here has).1

pub returns-clause-goes_on : goal.returns-clause-goes_on
returns-clause-goes_on c = λ turn stage next mappers id m k here has turned.
    mapping_goes_on turn stage mappers k id m here has next turned

pub returns-clause-loads_initialised : goal.returns-clause-loads_initialised
returns-clause-loads_initialised c = λ turn stage mappers id met m k here.
    mapping_moved turn stage mappers k id m here (looked met) refl (looked_keeps met)

pub returns-clause-loads_written : goal.returns-clause-loads_written
returns-clause-loads_written c = λ turn stage mappers id met m k here.
    mapping_moved turn stage mappers k id m here (ready met) refl (ready_keeps met)
