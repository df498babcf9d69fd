use Rattle.insert_locks.proofs.Knows.{bound_known}
use Rattle.insert_locks.proofs.laws.finished_watches_know_the_log.Goals as goal

pub returns-clause-reserved : goal.returns-clause-reserved
returns-clause-reserved c = λ v s all. (bound_known v s all).0

pub returns-clause-copied : goal.returns-clause-copied
returns-clause-copied c = λ v s all. (bound_known v s all).1
