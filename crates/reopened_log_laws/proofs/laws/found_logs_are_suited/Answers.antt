use Rattle.reopened_log_laws.proofs.AnyLogs.{found_logs_are_suited}
use Rattle.reopened_log_laws.proofs.laws.found_logs_are_suited.Goals as goal

pub returns : goal.returns
returns c = found_logs_are_suited
