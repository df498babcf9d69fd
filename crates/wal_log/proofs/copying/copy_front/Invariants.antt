-- So many words are copied, and no more than were asked for; where none was, nothing was done.
use Rattle.std.proofs.Common.{◌≡◌, ◌+◌, ◌-◌, ◌*◌, ◌≤◌}
use Rattle.wal_page.specs.Placed.{placed_end}
use Rattle.wal_rule.specs.SeatedPasses.{view_of}
use Rattle.wal_log.specs.HeldLocks.{locks_of}
use Rattle.wal_log.specs.Copying.{CopyGoesOn}
use Rattle.wal_log.specs.Downs.{KnowsNoFault}
use Rattle.wal_log.specs.Standing.{CopiesAlone}
use Rattle.wal_log.proofs.copying.copy_front.Given as goal

abbrev pub invariant-loop-held : goal.invariant-loop-held
invariant-loop-held g l = record {
  few : l.k ≤ l.most;
  copies : CopiesAlone (locks_of l.held) l.placed l.seated;
  next_is : l.placed ≡ record l.fn.placed { next = l.fn.placed.next + 8 * l.k };
  within : l.placed.next ≤ placed_end l.placed;
  copies_on : CopyGoesOn l.fn.placed l.placed l.fn.seated l.seated;
  up : KnowsNoFault (view_of l.fn.seated) → KnowsNoFault (view_of l.seated);
  silent : l.most ≡ 0 → view_of l.seated ≡ view_of l.fn.seated;
}

abbrev pub decreases-loop-held : goal.decreases-loop-held
decreases-loop-held g l = l.most - l.k
