-- So far words were copied of the record at its place.
use Rattle.wal_rule.specs.SeatedPasses.{view_of}
use Rattle.wal_log.specs.HeldLocks.{locks_of}
use Rattle.wal_log.specs.Copying.{CopyGoesOn}
use Rattle.wal_log.specs.Downs.{KnowsNoFault}
use Rattle.wal_log.specs.Standing.{CopiesAlone}
use Rattle.wal_log.proofs.copying.copy_rest.Given as goal

abbrev pub invariant-loop : goal.invariant-loop
invariant-loop g l = record {
  goes_on : (goal.iterator-loop g).can_next l.iterator'
      × (goal.iterator-loop g).is_finite l.iterator';
  copies : CopiesAlone (locks_of l.held) l.placed l.seated;
  copies_on : CopyGoesOn l.fn.placed l.placed l.fn.seated l.seated;
  up : KnowsNoFault (view_of l.seated);
}
