use Rattle.machine_laws.proofs.HeldLaws.{held_same, held_told}
use Rattle.machine_laws.proofs.locks_held.held_locks_stay_held.Goals as goal

pub returns-clause-same : goal.returns-clause-same
returns-clause-same c = λ lock later parts k same. held_same lock parts k later same

pub returns-clause-told : goal.returns-clause-told
returns-clause-told c = λ lock later parts id i w k here mine others taken.
    held_told lock parts k id w here later i mine others taken
