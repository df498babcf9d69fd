use Rattle.reopened_log_laws.proofs.CrashedSettlings.{crashed_completed_settlings_were_left, crashed_disks_were_left, crashed_reopened_settlings_were_left, crashed_stopped_settlings_were_left}
use Rattle.reopened_log_laws.proofs.laws.crashed_settlings_were_left.Goals as goal

pub returns-clause-uncalled : goal.returns-clause-uncalled
returns-clause-uncalled c = crashed_disks_were_left

pub returns-clause-stopped : goal.returns-clause-stopped
returns-clause-stopped c = crashed_stopped_settlings_were_left

pub returns-clause-completed : goal.returns-clause-completed
returns-clause-completed c = crashed_completed_settlings_were_left

pub returns-clause-reopened : goal.returns-clause-reopened
returns-clause-reopened c = crashed_reopened_settlings_were_left
