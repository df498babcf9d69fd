use Rattle.std.proofs.Common.{refl}
use Rattle.machine_laws.proofs.HeldLaws.{held_asked, held_released}
use Rattle.machine_laws.proofs.locks_held.locks_are_taken_and_given_back.Goals as goal

pub returns-clause-taken : goal.returns-clause-taken
returns-clause-taken c = λ lock later parts id i v k here low others is.
    held_asked lock parts k id v.working here v refl later i low others is

pub returns-clause-released : goal.returns-clause-released
returns-clause-released c = λ lock later parts id i w k here mine others free.
    held_released lock parts k id w here later i mine free others
