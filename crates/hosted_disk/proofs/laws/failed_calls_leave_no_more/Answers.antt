use Rattle.hosted_disk.proofs.Failed.{failed_left}
use Rattle.hosted_disk.proofs.laws.failed_calls_leave_no_more.Goals as goal

pub returns : goal.returns
returns c = failed_left
