-- The locks before this one are held, and nothing else has changed.
use Rattle.std.proofs.Common.{◌≤◌}
use Rattle.machine_state.specs.Moves.{with_working}
use Rattle.machine_state.specs.Views.{Landed}
use Rattle.wal_rule.specs.SeatedPasses.{HasView, view_of}
use Rattle.insert_locks.specs.Holding.{lock_run}
use Rattle.wal_log.proofs.switch_tries.take_each.Given as goal

abbrev pub invariant-loop-count : goal.invariant-loop-count
invariant-loop-count g l = record {
  few : l.count ≤ 8;
  has : HasView (with_working (lock_run 0 l.count) Landed (view_of l.fn.seated)) l.fn.seated
      l.seated;
}
