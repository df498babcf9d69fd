use Rattle.wal_log.specs.Logs.{IsPassOfLog}
use Rattle.log_tests.proofs.behind.first_other.Given as goal

abbrev pub invariant-loop-k : goal.invariant-loop-k
invariant-loop-k g l = IsPassOfLog l.log l.pass
