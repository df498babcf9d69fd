use Rattle.machine_laws.proofs.MappingLaws.{mapping_asked, mapping_released, open_has}
use Rattle.machine_laws.proofs.turns.the_mapping_turn_goes_round.Goals as goal

pub returns-clause-taken : goal.returns-clause-taken
returns-clause-taken c = mapping_asked

pub returns-clause-released : goal.returns-clause-released
returns-clause-released c = λ turn stage mappers id m k here is_open.
    mapping_released turn stage mappers k id m here (open_has m.1 is_open)
