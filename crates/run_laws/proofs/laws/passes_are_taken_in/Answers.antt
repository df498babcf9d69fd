use Rattle.run_laws.proofs.TakingIn.{none_taken_in, one_more_taken_in, still_taken_in}
use Rattle.run_laws.proofs.laws.passes_are_taken_in.Goals as goal

pub returns-clause-none : goal.returns-clause-none
returns-clause-none c = none_taken_in

pub returns-clause-more : goal.returns-clause-more
returns-clause-more c = one_more_taken_in

pub returns-clause-still : goal.returns-clause-still
returns-clause-still c = still_taken_in
