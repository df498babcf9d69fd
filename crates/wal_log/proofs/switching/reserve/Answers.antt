use Rattle.std.specs.Prelude.{Ok, Err}
use Rattle.std.proofs.Common.{subst}
use Rattle.std.proofs.lemmas.Result.{err_from_is_err_and}
use Rattle.std.specs.Prelude.{Result}
use Rattle.machine_state.specs.declared.setup.Setup.{Setup}
use Rattle.wal_rule.specs.SeatedPasses.{setup_of, view_of}
use Rattle.reserve_lock.specs.Reserved.{every_lock}
use Rattle.reserve_lock.specs.declared.switching.SwitchTry.{SwitchTry}
use Rattle.wal_log.specs.declared.inserting.InsertErr.{InsertErr}
use Rattle.wal_log.specs.Switching.{AnswersPlace}
use Rattle.wal_log.proofs.Seated.{same_setup}
use Rattle.wal_log.proofs.SwitchLaws.{further_holds, place_since}
use Rattle.wal_log.proofs.switching.reserve.Given.{Over}
use Rattle.wal_log.proofs.switching.reserve.Goals as goal
use Rattle.wal_log.proofs.switching.reserve.Goals.{After-reserve_or_wait}

-- what the last try told, of the pass before the first
module _ (g : Over) (c : After-reserve_or_wait g) where
  since : (r : Result SwitchTry InsertErr)
      → AnswersPlace (setup_of c.loop.seated) c.args.body.now (view_of c.loop.seated) r
      (view_of c.reserve_or_wait.new.seated)
      → AnswersPlace (setup_of c.args.seated.now) c.args.body.now (view_of c.args.seated.now) r
      (view_of c.reserve_or_wait.new.seated)
  since r told =
      let holds = c.loop.invariant.holds in
      let between = view_of c.loop.seated in
      let new = view_of c.reserve_or_wait.new.seated in
      place_since (setup_of c.args.seated.now) c.args.body.now (view_of c.args.seated.now) between
      new holds.goes_on.keeps holds.log_is c.loop.invariant.up r
      (subst (λ (s : Setup). AnswersPlace s c.args.body.now between r new)
      (same_setup c.args.seated.now c.loop.seated holds.goes_on.stays.same_table) told)

pub returns-in-Some-2-clause-reserves : goal.returns-in-Some-2-clause-reserves
returns-in-Some-2-clause-reserves g c =
    since g (goal.at.returns-in-Some-2-clause-reserves g c).After-reserve_or_wait
    (Ok c.in-Some-2.tried) (rw c.in-Some-2.is at c.in_ok-tried.ensures.reserves)

pub returns-in_err-tried-clause-reserves : goal.returns-in_err-tried-clause-reserves
returns-in_err-tried-clause-reserves g c =
    let p = err_from_is_err_and c.from_residual.result c.from_residual.ensures.1 in
    rw (p.1, p.2) (since g
    (goal.at.returns-in_err-tried-clause-reserves g c).After-reserve_or_wait
    (Err c.in_err-tried.field-0.0) c.in_err-tried.ensures.reserves)

pub loop-preserved : goal.loop-preserved
loop-preserved g c =
    let waits = rw c.in_default.is at c.in_ok-tried.ensures.reserves in record {
      goes_on = (tt, tt);
      holds = further_holds c.args.seated.now c.loop.seated c.reserve_or_wait.new.seated
          every_lock every_lock c.loop.invariant.holds waits.0;
      up = waits.1;
    }
