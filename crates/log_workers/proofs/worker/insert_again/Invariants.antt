use Rattle.wal_rule.specs.Passes.{view_of_pass}
use Rattle.wal_log.specs.Logs.{IsPassOfLog}
use Rattle.wal_log.specs.Standing.{KeepsPass}
use Rattle.log_workers.proofs.worker.insert_again.Given as goal

-- the pass is the log's, and kept what it has to keep so far
abbrev pub invariant-loop-again : goal.invariant-loop-again
invariant-loop-again g l = IsPassOfLog l.log l.pass
    × KeepsPass (view_of_pass l.fn.pass) (view_of_pass l.pass)
