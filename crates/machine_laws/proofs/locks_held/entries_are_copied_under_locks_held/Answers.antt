use Rattle.machine_laws.proofs.HeldLaws.{held_begun, held_copied_on}
use Rattle.machine_laws.proofs.locks_held.entries_are_copied_under_locks_held.Goals as goal

pub returns-clause-begun : goal.returns-clause-begun
returns-clause-begun c = λ lock parts id w d k here mine. held_begun lock parts k id w here d mine

pub returns-clause-copied_on : goal.returns-clause-copied_on
returns-clause-copied_on c = λ lock parts id w k here. held_copied_on lock parts k id w here
