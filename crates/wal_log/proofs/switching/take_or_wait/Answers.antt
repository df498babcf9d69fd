use Rattle.std.proofs.lemmas.Result.{err_from_is_err_and}
use Rattle.wal_rule.specs.SeatedPasses.{view_of}
use Rattle.insert_locks.specs.Holding.{lock_run}
use Rattle.wal_log.specs.Downs.{KnowsNoFault}
use Rattle.wal_log.specs.Switching.{HoldsOn}
use Rattle.wal_log.proofs.SwitchLaws.{down_since, further_holds, lock_taken, taken_up, vain_holds, vain_up}
use Rattle.wal_log.proofs.WaitLaws.{up_behind}
use Rattle.wal_log.proofs.switching.take_or_wait.Given.{Over}
use Rattle.wal_log.proofs.switching.take_or_wait.Goals as goal
use Rattle.wal_log.proofs.switching.take_or_wait.Goals.{After-look_down, After-tell_seen}

pub returns-then-try_take_lock-eq0 : goal.returns-then-try_take_lock-eq0
returns-then-try_take_lock-eq0 g c =
    let taken = c.try_take_lock.ensures.taken c.if-try_take_lock-eq0.true in record {
      takes = (
        taken_up c.args.seated.now c.try_take_lock.new.seated c.args.lock taken c.requires.up,
        lock_taken c.args.seated.now c.try_take_lock.new.seated c.args.lock taken c.requires.has,
      );
    }

-- the lock was held by somebody: what was seen is told under those below it
module _ (g : Over) (c : After-tell_seen g) where
  tried : HoldsOn (lock_run 0 c.args.lock) c.args.seated.now c.tell_seen.new.seated
  tried = further_holds c.args.seated.now c.try_take_lock.new.seated c.tell_seen.new.seated
      (lock_run 0 c.args.lock) (lock_run 0 c.args.lock)
      (vain_holds c.args.seated.now c.try_take_lock.new.seated
      (c.try_take_lock.ensures.held c.if-try_take_lock-eq0.false) (lock_run 0 c.args.lock)
      c.requires.has) c.tell_seen.ensures.holds

  tried_up : KnowsNoFault (view_of c.tell_seen.new.seated)
  tried_up = c.tell_seen.ensures.up (vain_up c.args.seated.now c.try_take_lock.new.seated
      (c.try_take_lock.ensures.held c.if-try_take_lock-eq0.false) c.requires.up)

module _ (g : Over) (c : After-look_down g)
    (before : HoldsOn (lock_run 0 c.args.lock) c.args.seated.now c.tell_seen.new.seated) where
  looked : HoldsOn (lock_run 0 c.args.lock) c.args.seated.now c.look_down.new.seated
  looked = further_holds c.args.seated.now c.tell_seen.new.seated c.look_down.new.seated
      (lock_run 0 c.args.lock) (lock_run 0 c.args.lock) before
      (c.look_down.ensures.holds (lock_run 0 c.args.lock) before.has)

pub returns-in_err-look_down : goal.returns-in_err-look_down
returns-in_err-look_down g c =
    let path = goal.at.returns-in_err-look_down g c in
    let before = tried g path.After-tell_seen in
    let p = err_from_is_err_and c.from_residual.result c.from_residual.ensures.1 in
    record {
      takes = rw (p.1, p.2) (
        looked g path.After-look_down before,
        down_since (view_of c.args.seated.now) (view_of c.tell_seen.new.seated)
            (view_of c.look_down.new.seated) before.goes_on.keeps before.log_is
            (tried_up g path.After-tell_seen) c.in_err-look_down.field-0.0
            c.in_err-look_down.ensures.looks,
      );
    }

pub returns : goal.returns
returns g c =
    let path = goal.at.returns g c in
    let before = tried g path.After-tell_seen in record {
      takes = (
        c.in_ok-look_down.ensures.looks.0,
        (
          looked g path.After-look_down before,
          (λ some. c.look_down.ensures.told (lock_run 0 c.args.lock)
              (c.tell_seen.ensures.told some)),
          up_behind (view_of c.args.seated.now) (view_of c.tell_seen.new.seated)
              (view_of c.look_down.new.seated) before.goes_on.keeps
              c.in_ok-look_down.ensures.looks.1,
        ),
      );
    }
