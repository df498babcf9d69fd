-- The locks before this one were told the address.
use Rattle.std.proofs.Common.{◌≤◌}
use Rattle.insert_locks.proofs.Runs.{HasToldBelow}
use Rattle.insert_locks.proofs.holding.advance_below.Given as goal

abbrev pub invariant-loop-lock : goal.invariant-loop-lock
invariant-loop-lock g l = record {
  few : l.lock ≤ l.count;
  told : HasToldBelow l.lock l.upto.0 l.fn.seated l.seated;
}
