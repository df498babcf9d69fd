-- The locks from this one on are left.
use Rattle.std.proofs.Common.{◌-◌, ◌≤◌}
use Rattle.wal_rule.specs.SeatedPasses.{HasView, view_of}
use Rattle.insert_locks.specs.Holding.{lock_run}
use Rattle.insert_locks.proofs.Runs.{left_with}
use Rattle.insert_locks.proofs.holding.release_below.Given as goal

abbrev pub invariant-loop-lock : goal.invariant-loop-lock
invariant-loop-lock g l = record {
  few : l.lock ≤ l.count;
  left : HasView (left_with (lock_run l.lock (l.count - l.lock)) (view_of l.fn.seated))
      l.fn.seated l.seated;
}
