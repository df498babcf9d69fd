use Rattle.machine_laws.proofs.HeldLaws.{held_added, held_taken_in, held_given_up}
use Rattle.machine_laws.proofs.locks_held.held_locks_outlive_their_views.Goals as goal

pub returns-clause-split : goal.returns-clause-split
returns-clause-split c = λ lock parts k. held_added lock parts k

pub returns-clause-joined : goal.returns-clause-joined
returns-clause-joined c = λ lock parts id other w x k here there none lands.
    held_taken_in lock parts k id w here other x there none lands

pub returns-clause-given_up : goal.returns-clause-given_up
returns-clause-given_up c = λ lock parts id w k here. held_given_up lock parts k id w here
