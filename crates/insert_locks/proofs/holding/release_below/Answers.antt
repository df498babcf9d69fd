use Rattle.std.proofs.Common.{◌+◌, ◌-◌, arith}
use Rattle.insert_locks.specs.Holding.{lock_run}
use Rattle.insert_locks.proofs.Runs.{left_next, may_release_next}
use Rattle.insert_locks.proofs.holding.release_below.Goals as goal

pub release-requires-clause-may : goal.release-requires-clause-may
release-requires-clause-may g c =
    let less = c.loop-lock-test.true in
    may_release_next c.args.seated.now c.loop-lock.seated c.loop-lock.lock
    (c.args.count - c.loop-lock.lock) (c.args.count - (c.loop-lock.lock + 1))
    (omega (arith, less)) c.loop-lock.invariant.left (lock_run 0 c.args.count) c.requires.left

pub loop-lock-preserved : goal.loop-lock-preserved
loop-lock-preserved g c =
    let less = c.loop-lock-test.true in record {
      few = omega (arith, less);
      left = left_next c.args.seated.now c.loop-lock.seated c.release.new.self c.loop-lock.lock
          (c.args.count - c.loop-lock.lock) (c.args.count - (c.loop-lock.lock + 1))
          (omega (arith, less)) c.loop-lock.invariant.left c.release.ensures.steps;
    }
