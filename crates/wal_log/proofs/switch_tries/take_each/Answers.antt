use Rattle.std.proofs.Common.{◌≡◌, ◌≢◌, ℕ, subst, arith}
use Rattle.machine_state.specs.Moves.{with_working}
use Rattle.machine_state.specs.Views.{Landed}
use Rattle.wal_rule.specs.SeatedPasses.{HasView, view_of}
use Rattle.insert_locks.specs.Holding.{lock_run}
use Rattle.wal_log.specs.Standing.{HasLocks}
use Rattle.wal_log.proofs.SwitchTryLaws.{found_taken, given_back, has_taken, none_more, none_taken, one_taken}
use Rattle.wal_log.proofs.Unlocking.{locks_held, none_flies}
use Rattle.wal_log.proofs.switch_tries.take_each.Given.{Over}
use Rattle.wal_log.proofs.switch_tries.take_each.Goals as goal
use Rattle.wal_log.proofs.switch_tries.take_each.Goals.{After-try_take_lock-word}

pub loop-count-init : goal.loop-count-init
loop-count-init g c = record {
  few = omega arith;
  has = none_taken c.args.seated.now c.requires.has;
}

pub loop-count-preserved : goal.loop-count-preserved
loop-count-preserved g c =
    let less = c.loop-count-test.true in record {
      few = omega (arith, less);
      has = one_taken c.args.seated.now c.loop-count.seated c.try_take_lock-word.new.seated
          c.loop-count.count c.loop-count.invariant.has
          (c.try_take_lock-word.ensures.taken c.if-word-ne0.false);
    }

-- the lock was held: those below it are held still
module _ (g : Over) (c : After-try_take_lock-word g) (some : c.try_take_lock-word.result ≢ 0) where
  still : HasView (with_working (lock_run 0 c.loop-count.count) Landed (view_of c.args.seated.now))
      c.args.seated.now c.try_take_lock-word.new.seated
  still = none_more c.args.seated.now c.loop-count.seated c.try_take_lock-word.new.seated
      (lock_run 0 c.loop-count.count) c.loop-count.invariant.has
      (c.try_take_lock-word.ensures.held some)

  has : HasLocks (lock_run 0 c.loop-count.count) (view_of c.try_take_lock-word.new.seated)
  has = has_taken c.args.seated.now c.try_take_lock-word.new.seated
      (lock_run 0 c.loop-count.count) c.requires.has still

pub release_below-requires-clause-holds : goal.release_below-requires-clause-holds
release_below-requires-clause-holds g c =
    locks_held (lock_run 0 c.loop-count.count) (view_of c.try_take_lock-word.new.seated)
    (has g (goal.at.release_below-requires-clause-holds g c).After-try_take_lock-word
    c.if-word-ne0.true)

pub release_below-requires-clause-left : goal.release_below-requires-clause-left
release_below-requires-clause-left g c =
    none_flies (lock_run 0 c.loop-count.count) (view_of c.try_take_lock-word.new.seated)
    (has g (goal.at.release_below-requires-clause-left g c).After-try_take_lock-word
    c.if-word-ne0.true)

pub returns-then-word-ne0 : goal.returns-then-word-ne0
returns-then-word-ne0 g c =
    let less = c.loop-count-test.true in record {
      takes = (
        given_back c.args.seated.now c.try_take_lock-word.new.seated c.release_below.new.seated
            (lock_run 0 c.loop-count.count) c.requires.has
            (still g (goal.at.returns-then-word-ne0 g c).After-try_take_lock-word
            c.if-word-ne0.true) c.release_below.ensures.view,
        found_taken c.args.seated.now c.loop-count.seated c.loop-count.count
            c.try_take_lock-word.result (omega (arith, less)) c.if-word-ne0.true
            c.loop-count.invariant.has c.try_take_lock-word.ensures.met,
      );
    }

pub returns : goal.returns
returns g c =
    let ended = c.loop-count-test.false in
    let few = c.loop-count.invariant.few in
    let all : c.loop-count.count ≡ 8 = omega (arith, ended, few) in record {
      takes = subst (λ (n : ℕ). HasView
          (with_working (lock_run 0 n) Landed (view_of c.args.seated.now)) c.args.seated.now
          c.loop-count.seated) all c.loop-count.invariant.has;
    }
