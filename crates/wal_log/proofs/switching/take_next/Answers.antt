use Rattle.std.proofs.Common.{◌+◌}
use Rattle.std.proofs.lemmas.Result.{err_from_is_err_and}
use Rattle.wal_rule.specs.SeatedPasses.{view_of}
use Rattle.insert_locks.specs.Holding.{lock_run}
use Rattle.wal_log.proofs.SwitchLaws.{down_since, further_holds}
use Rattle.wal_log.proofs.switching.take_next.Goals as goal

pub returns-then-branch : goal.returns-then-branch
returns-then-branch g c =
    let takes = rw c.if-branch.true at c.in_ok-take_or_wait.ensures.takes in record {
      takes = (
        further_holds c.args.seated.now c.loop.seated c.take_or_wait.new.seated
            (lock_run 0 c.args.lock) (lock_run 0 (c.args.lock + 1)) c.loop.invariant.holds
            takes.1,
        takes.0,
      );
    }

pub returns-in_err-take_or_wait : goal.returns-in_err-take_or_wait
returns-in_err-take_or_wait g c =
    let p = err_from_is_err_and c.from_residual.result c.from_residual.ensures.1 in
    let takes = c.in_err-take_or_wait.ensures.takes in record {
      takes = rw (p.1, p.2) (
        further_holds c.args.seated.now c.loop.seated c.take_or_wait.new.seated
            (lock_run 0 c.args.lock) (lock_run 0 c.args.lock) c.loop.invariant.holds takes.0,
        down_since (view_of c.args.seated.now) (view_of c.loop.seated)
            (view_of c.take_or_wait.new.seated) c.loop.invariant.holds.goes_on.keeps
            c.loop.invariant.holds.log_is c.loop.invariant.up c.in_err-take_or_wait.field-0.0 takes.1,
      );
    }

pub loop-preserved : goal.loop-preserved
loop-preserved g c =
    let takes = rw c.if-branch.false at c.in_ok-take_or_wait.ensures.takes in record {
      goes_on = (tt, tt);
      holds = further_holds c.args.seated.now c.loop.seated c.take_or_wait.new.seated
          (lock_run 0 c.args.lock) (lock_run 0 c.args.lock) c.loop.invariant.holds takes.1.0;
      up = takes.0;
    }
