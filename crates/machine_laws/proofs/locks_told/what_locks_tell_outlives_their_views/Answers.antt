use Rattle.machine_laws.proofs.ToldLaws.{told_added, told_taken_in, told_given_up}
use Rattle.machine_laws.proofs.locks_told.what_locks_tell_outlives_their_views.Goals as goal

pub returns-clause-split : goal.returns-clause-split
returns-clause-split c = λ size end lock parts k. told_added size end lock parts k

pub returns-clause-joined : goal.returns-clause-joined
returns-clause-joined c = λ size end lock parts id other w x k here there none lands.
    told_taken_in size end lock parts k id w here other x there none lands

pub returns-clause-given_up : goal.returns-clause-given_up
returns-clause-given_up c = λ size end lock parts id w k here. told_given_up size end lock parts k id w here
