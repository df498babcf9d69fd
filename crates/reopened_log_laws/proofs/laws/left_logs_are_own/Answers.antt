use Rattle.reopened_log_laws.proofs.OwnAnswers.{left_logs_are_not_foreign, left_logs_are_own}
use Rattle.reopened_log_laws.proofs.laws.left_logs_are_own.Goals as goal

pub returns-clause-own : goal.returns-clause-own
returns-clause-own c = left_logs_are_own

pub returns-clause-never_refused : goal.returns-clause-never_refused
returns-clause-never_refused c = left_logs_are_not_foreign
