use Rattle.machine_state.specs.Views.{Turned}
use Rattle.machine_laws.proofs.WritingLaws.{at_hold, writing_asked, writing_released}
use Rattle.machine_laws.proofs.turns.the_write_turn_goes_round.Goals as goal

pub returns-clause-taken : goal.returns-clause-taken
returns-clause-taken c = writing_asked

pub returns-clause-released : goal.returns-clause-released
returns-clause-released c = λ turn home writer writers id m k here is.
    writing_released turn home writer writers k id m.0 (at_hold writers id m Turned here is)
