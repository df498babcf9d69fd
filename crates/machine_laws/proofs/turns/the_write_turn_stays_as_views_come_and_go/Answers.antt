use Rattle.machine_laws.proofs.WritingLaws.{writing_added, writing_taken_in}
use Rattle.machine_laws.proofs.turns.the_write_turn_stays_as_views_come_and_go.Goals as goal

pub returns-clause-added : goal.returns-clause-added
returns-clause-added c = λ turn home writer writers number k.
    writing_added turn home writer writers k number

pub returns-clause-joined : goal.returns-clause-joined
returns-clause-joined c = λ turn home writer writers id other m x k here there idle.
    writing_taken_in turn home writer writers k id m here other x there idle
