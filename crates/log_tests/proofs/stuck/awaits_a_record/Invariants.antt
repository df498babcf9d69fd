-- The pass is one of the log, look by look.
use Rattle.wal_log.specs.Logs.{IsPassOfLog}
use Rattle.log_tests.proofs.stuck.awaits_a_record.Given as goal

abbrev pub invariant-loop-look : goal.invariant-loop-look
invariant-loop-look l = IsPassOfLog l.log l.pass
