use Rattle.written_log_laws.proofs.SettledLogs.{settling_logs_decode_to_fronts, synced_logs_decode_to_fronts}
use Rattle.written_log_laws.proofs.laws.settled_logs_decode.Goals as goal

pub returns-clause-fronts : goal.returns-clause-fronts
returns-clause-fronts c = settling_logs_decode_to_fronts

pub returns-clause-synced : goal.returns-clause-synced
returns-clause-synced c = synced_logs_decode_to_fronts
