use Rattle.reopened_log_laws.proofs.StoppedLogs.{stopped_logs_were_left}
use Rattle.reopened_log_laws.proofs.StoppedRuns.{stopped_reopened_runs_were_left, stopped_runs_were_left}
use Rattle.reopened_log_laws.proofs.laws.stopped_logs_were_left.Goals as goal

pub returns-clause-written : goal.returns-clause-written
returns-clause-written c = stopped_logs_were_left

pub returns-clause-run : goal.returns-clause-run
returns-clause-run c = stopped_runs_were_left

pub returns-clause-reopened : goal.returns-clause-reopened
returns-clause-reopened c = stopped_reopened_runs_were_left
