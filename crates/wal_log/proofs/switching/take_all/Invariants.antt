-- The locks before this one are held, and nothing else has changed.
use Rattle.std.proofs.Common.{◌≤◌}
use Rattle.wal_rule.specs.SeatedPasses.{view_of}
use Rattle.insert_locks.specs.Holding.{lock_run}
use Rattle.wal_log.specs.Downs.{KnowsNoFault}
use Rattle.wal_log.specs.Switching.{HoldsOn}
use Rattle.wal_log.proofs.switching.take_all.Given as goal

abbrev pub invariant-loop-count : goal.invariant-loop-count
invariant-loop-count g l = record {
  few : l.count ≤ 8;
  holds : HoldsOn (lock_run 0 l.count) l.fn.seated l.seated;
  up : KnowsNoFault (view_of l.seated);
}
