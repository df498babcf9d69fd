-- The locks below this one are held on, and what the pass has seen was told under them.
use Rattle.wal_rule.specs.SeatedPasses.{view_of}
use Rattle.insert_locks.specs.Holding.{lock_run}
use Rattle.wal_log.specs.Downs.{KnowsNoFault}
use Rattle.wal_log.specs.Switching.{HoldsOn}
use Rattle.wal_log.proofs.switching.take_next.Given as goal

abbrev pub invariant-loop : goal.invariant-loop
invariant-loop g l = record {
  goes_on : (goal.iterator-loop g).can_next l.iterator'
      × (goal.iterator-loop g).is_finite l.iterator';
  holds : HoldsOn (lock_run 0 l.lock) l.fn.seated l.seated;
  up : KnowsNoFault (view_of l.seated);
}
