use Rattle.reopened_log_laws.proofs.Surviving.{reopened_logs_survive_crashes}
use Rattle.reopened_log_laws.proofs.laws.reopened_logs_survive_crashes.Goals as goal

pub returns : goal.returns
returns c = reopened_logs_survive_crashes
