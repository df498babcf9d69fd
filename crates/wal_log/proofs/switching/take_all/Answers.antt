use Rattle.std.proofs.Common.{◌≡◌, ◌+◌, ℕ, [], subst, arith}
use Rattle.wal_rule.specs.SeatedPasses.{view_of}
use Rattle.insert_locks.specs.Holding.{lock_run}
use Rattle.wal_log.specs.Switching.{HoldsOn}
use Rattle.wal_log.proofs.SwitchLaws.{first_holds, further_holds}
use Rattle.wal_log.proofs.Unlocking.{locks_held}
use Rattle.wal_log.proofs.switching.take_all.Goals as goal

pub loop-count-init : goal.loop-count-init
loop-count-init g c = record {
  few = omega arith;
  holds = first_holds c.args.seated.now [] c.requires.has;
  up = c.requires.up;
}

pub loop-count-preserved : goal.loop-count-preserved
loop-count-preserved g c =
    let less = c.loop-count-test.true in
    let takes = c.in_default.ensures.takes in record {
      few = omega (arith, less);
      holds = further_holds c.args.seated.now c.loop-count.seated c.take_next.new.seated
          (lock_run 0 c.loop-count.count) (lock_run 0 (c.loop-count.count + 1))
          c.loop-count.invariant.holds takes.0;
      up = takes.1;
    }

pub release_below-requires-clause-holds : goal.release_below-requires-clause-holds
release_below-requires-clause-holds g c = locks_held (lock_run 0 c.loop-count.count)
    (view_of c.take_next.new.seated) c.in-Err.ensures.takes.0.has

pub returns : goal.returns
returns g c =
    let ended = c.loop-count-test.false in
    let few = c.loop-count.invariant.few in
    let all : c.loop-count.count ≡ 8 = omega (arith, ended, few) in record {
      takes = (
        subst (λ (n : ℕ). HoldsOn (lock_run 0 n) c.args.seated.now c.loop-count.seated) all
            c.loop-count.invariant.holds,
        c.loop-count.invariant.up,
      );
    }
