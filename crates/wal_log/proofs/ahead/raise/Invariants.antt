-- The tries so far have raised nothing, or less than what they met.
use Rattle.wal_log.specs.Behind.{RaisesAsync}
use Rattle.wal_log.proofs.ahead.raise.Given as goal

abbrev pub invariant-loop : goal.invariant-loop
invariant-loop g l = record {
  goes_on : (goal.iterator-loop g).can_next l.iterator'
      × (goal.iterator-loop g).is_finite l.iterator';
  raises : RaisesAsync l.fn.seated l.seated;
}
