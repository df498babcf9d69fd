-- The words met so far are not 0, and nothing has changed.
use Rattle.std.proofs.Common.{◌≡◌, length}
use Rattle.wal_rule.specs.SeatedPasses.{HasView, view_of}
use Rattle.insert_locks.specs.Taking.{HaveMetHeld}
use Rattle.insert_locks.proofs.taking.try_take.Given as goal

abbrev pub invariant-loop-tried : goal.invariant-loop-tried
invariant-loop-tried g l = (length l.seen ≡ 8)
    × HaveMetHeld (view_of l.fn.seated) l.tried l.seen
    × HasView (view_of l.fn.seated) l.fn.seated l.seated
