use Rattle.reopened_log_laws.proofs.LeftAgain.{crashed_logs_were_left}
use Rattle.reopened_log_laws.proofs.LeftRuns.{crashed_reopened_runs_were_left, crashed_runs_were_left}
use Rattle.reopened_log_laws.proofs.laws.crashed_logs_were_left.Goals as goal

pub returns-clause-written : goal.returns-clause-written
returns-clause-written c = crashed_logs_were_left

pub returns-clause-run : goal.returns-clause-run
returns-clause-run c = crashed_runs_were_left

pub returns-clause-reopened : goal.returns-clause-reopened
returns-clause-reopened c = crashed_reopened_runs_were_left
