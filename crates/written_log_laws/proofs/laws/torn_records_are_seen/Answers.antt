use Rattle.written_log_laws.proofs.TornLaws.{entries_upto_are_whole, seen_torn_fails_checks}
use Rattle.written_log_laws.proofs.laws.torn_records_are_seen.Goals as goal

pub returns-clause-hard : goal.returns-clause-hard
returns-clause-hard c = entries_upto_are_whole

pub returns-clause-seen : goal.returns-clause-seen
returns-clause-seen c = seen_torn_fails_checks
