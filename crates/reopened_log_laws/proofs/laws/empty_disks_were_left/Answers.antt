use Rattle.reopened_log_laws.proofs.EmptyDisks.{empty_disks_were_left}
use Rattle.reopened_log_laws.proofs.laws.empty_disks_were_left.Goals as goal

pub returns : goal.returns
returns c = empty_disks_were_left
