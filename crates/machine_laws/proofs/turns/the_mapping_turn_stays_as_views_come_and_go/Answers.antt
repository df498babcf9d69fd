use Rattle.machine_laws.proofs.MappingLaws.{mapping_added, mapping_taken_in}
use Rattle.machine_laws.proofs.turns.the_mapping_turn_stays_as_views_come_and_go.Goals as goal

pub returns-clause-added : goal.returns-clause-added
returns-clause-added c = λ turn stage mappers number k. mapping_added turn stage mappers k number

pub returns-clause-joined : goal.returns-clause-joined
returns-clause-joined c = λ turn stage mappers id other m x k here there away.
    mapping_taken_in turn stage mappers k id m here other x there away
