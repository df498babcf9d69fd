-- What was read is durable, and nothing else is left.
use Rattle.flush_core.proofs.SettledLogs.{settled_logs_are_whole, settling_keeps_lawful, synced_logs_are_lawful}
use Rattle.flush_core.proofs.laws.settled_logs_are_found_again.Goals as goal

pub returns-clause-whole : goal.returns-clause-whole
returns-clause-whole c = settled_logs_are_whole

pub returns-clause-lawful : goal.returns-clause-lawful
returns-clause-lawful c = settling_keeps_lawful

pub returns-clause-synced : goal.returns-clause-synced
returns-clause-synced c = synced_logs_are_lawful
