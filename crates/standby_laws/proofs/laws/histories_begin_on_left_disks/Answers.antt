-- What a disk was left with is what a history asks for.
use Rattle.standby_laws.proofs.Beginning.{empty_may_follow, left_may_be_followed}
use Rattle.standby_laws.proofs.laws.histories_begin_on_left_disks.Goals as goal

pub returns-clause-left : goal.returns-clause-left
returns-clause-left c = left_may_be_followed

pub returns-clause-empty : goal.returns-clause-empty
returns-clause-empty c = empty_may_follow
