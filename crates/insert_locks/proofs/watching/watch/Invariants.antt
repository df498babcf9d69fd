-- The locks so far let the watch pass.
use Rattle.wal_rule.specs.SeatedPasses.{StaysSeated, view_of}
use Rattle.insert_locks.proofs.Visits.{WatchesOn}
use Rattle.insert_locks.proofs.watching.watch.Given as goal

abbrev pub invariant-loop-number : goal.invariant-loop-number
invariant-loop-number g l =
    WatchesOn l.fn.upto.0 l.end l.bound l.number (view_of l.fn.seated) (view_of l.seated)
    × StaysSeated l.fn.seated l.seated
