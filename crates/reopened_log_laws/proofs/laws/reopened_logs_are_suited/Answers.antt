use Rattle.reopened_log_laws.proofs.SuitedDisks.{reopened_logs_are_suited}
use Rattle.reopened_log_laws.proofs.laws.reopened_logs_are_suited.Goals as goal

pub returns : goal.returns
returns c = reopened_logs_are_suited
