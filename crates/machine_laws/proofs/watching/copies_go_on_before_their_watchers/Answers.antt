use Rattle.machine_laws.proofs.WatchLaws.{watched_reserved, watched_copied_on, watched_released, watched_asked}
use Rattle.machine_laws.proofs.watching.copies_go_on_before_their_watchers.Goals as goal

pub returns-clause-begun : goal.returns-clause-begun
returns-clause-begun c = watched_reserved

pub returns-clause-copied_on : goal.returns-clause-copied_on
returns-clause-copied_on c = λ size end works watches id w k here.
    watched_copied_on size end works watches k id w here

pub returns-clause-released : goal.returns-clause-released
returns-clause-released c = λ size end works watches id i w locks k here.
    watched_released size end works watches k id w here i locks

pub returns-clause-taken : goal.returns-clause-taken
returns-clause-taken c = watched_asked
