use Rattle.reopened_log_laws.proofs.StoppedSettlings.{reopened_settlings_were_left, stopped_settlings_were_left, completed_settlings_were_left, tapes_stop_at_their_ends}
use Rattle.reopened_log_laws.proofs.laws.stopped_settlings_were_left.Goals as goal

pub returns-clause-stopped : goal.returns-clause-stopped
returns-clause-stopped c = stopped_settlings_were_left

pub returns-clause-completed : goal.returns-clause-completed
returns-clause-completed c = completed_settlings_were_left

pub returns-clause-reopened : goal.returns-clause-reopened
returns-clause-reopened c = reopened_settlings_were_left

pub returns-clause-now : goal.returns-clause-now
returns-clause-now c = tapes_stop_at_their_ends
