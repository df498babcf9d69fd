use Rattle.wal_rule.specs.Passes.{view_of_pass}
use Rattle.wal_log.specs.Logs.{IsPassOfLog}
use Rattle.wal_log.specs.Standing.{KeepsPass}
use Rattle.log_workers.proofs.worker.flush_behind.Given as goal

-- the pass is the log's, and kept what it has to keep so far
abbrev pub invariant-loop : goal.invariant-loop
invariant-loop g l = record {
  goes_on : (goal.iterator-loop g).can_next l.iterator'
      × (goal.iterator-loop g).is_finite l.iterator';
  pass : IsPassOfLog l.log l.pass;
  keeps : KeepsPass (view_of_pass l.fn.pass) (view_of_pass l.pass);
}
