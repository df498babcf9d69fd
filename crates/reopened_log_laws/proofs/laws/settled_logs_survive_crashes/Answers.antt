use Rattle.reopened_log_laws.proofs.StoppedCrashes.{settled_logs_keep_what_was_found, stopped_settlings_survive_crashes}
use Rattle.reopened_log_laws.proofs.laws.settled_logs_survive_crashes.Goals as goal

pub returns-clause-stopped : goal.returns-clause-stopped
returns-clause-stopped c = stopped_settlings_survive_crashes

pub returns-clause-settled : goal.returns-clause-settled
returns-clause-settled c = settled_logs_keep_what_was_found
