-- The tries so far reserved nothing.
use Rattle.wal_log.proofs.Trying.{HasTriedOn}
use Rattle.wal_log.proofs.inserting.begin.Given as goal

abbrev pub invariant-loop : goal.invariant-loop
invariant-loop g l = record {
  goes_on : (goal.iterator-loop g).can_next l.iterator'
      × (goal.iterator-loop g).is_finite l.iterator';
  tried : HasTriedOn l.fn.seated l.seated;
}
