-- So far words were copied of the record at its place.
use Rattle.std.proofs.Common.{List, ℕ, ◌-◌, ◌≤◌}
use Rattle.wal_page.specs.Placed.{placed_end}
use Rattle.wal_rule.specs.SeatedPasses.{view_of}
use Rattle.wal_log.specs.Copying.{CopyGoesOn}
use Rattle.wal_log.specs.Downs.{KnowsNoFault}
use Rattle.wal_log.specs.Standing.{CopiesAlone}
use Rattle.wal_log.proofs.copying.copy_there.Given as goal

abbrev pub invariant-pages : goal.invariant-pages
invariant-pages g l = record {
  copies : (locks : List ℕ) → CopiesAlone locks l.fn.placed l.fn.seated
      → CopiesAlone locks l.placed l.seated;
  within : l.placed.next ≤ placed_end l.placed;
  copies_on : CopyGoesOn l.fn.placed l.placed l.fn.seated l.seated;
  up : KnowsNoFault (view_of l.fn.seated) → KnowsNoFault (view_of l.seated);
}

abbrev pub decreases-pages : goal.decreases-pages
decreases-pages g l = placed_end l.placed - l.placed.next
