use Rattle.wal_log.specs.Logs.{IsPassOfLog}
use Rattle.log_tests.proofs.stuck.a_full_log_reserves_nothing.Given as goal

abbrev pub invariant-loop-len : goal.invariant-loop-len
invariant-loop-len g l = IsPassOfLog l.log l.pass × IsPassOfLog l.log l.first
