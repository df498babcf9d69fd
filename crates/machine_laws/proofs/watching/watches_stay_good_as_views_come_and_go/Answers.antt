use Rattle.machine_laws.proofs.WatchLaws.{watched_added, watched_taken_in, watched_given_up}
use Rattle.machine_laws.proofs.watching.watches_stay_good_as_views_come_and_go.Goals as goal

pub returns-clause-split : goal.returns-clause-split
returns-clause-split c = λ size end works watches k. watched_added size end works watches k

pub returns-clause-joined : goal.returns-clause-joined
returns-clause-joined c = λ size end works watches id other w x y k here there none lands at apart.
    watched_taken_in size end works watches k id w here other x y there none lands at apart

pub returns-clause-given_up : goal.returns-clause-given_up
returns-clause-given_up c = λ size end works watches id w k here.
    watched_given_up size end works watches k id w here
