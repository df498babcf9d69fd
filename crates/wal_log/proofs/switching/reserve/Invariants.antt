-- The tries so far reserved nothing, and all locks are held on.
use Rattle.wal_rule.specs.SeatedPasses.{view_of}
use Rattle.reserve_lock.specs.Reserved.{every_lock}
use Rattle.wal_log.specs.Downs.{KnowsNoFault}
use Rattle.wal_log.specs.Switching.{HoldsOn}
use Rattle.wal_log.proofs.switching.reserve.Given as goal

abbrev pub invariant-loop : goal.invariant-loop
invariant-loop g l = record {
  goes_on : (goal.iterator-loop g).can_next l.iterator'
      × (goal.iterator-loop g).is_finite l.iterator';
  holds : HoldsOn every_lock l.fn.seated l.seated;
  up : KnowsNoFault (view_of l.seated);
}
