use Rattle.std.proofs.Common.{subst}
use Rattle.std.proofs.lemmas.Result.{err_from_is_err_and}
use Rattle.wal_rule.specs.SeatedPasses.{setup_of, view_of}
use Rattle.reserve_lock.specs.Reserved.{TellsWhy, every_lock}
use Rattle.reserve_lock.specs.declared.reserving.ReserveErr.{ReserveErr}
use Rattle.wal_log.specs.Downs.{KnowsNoFault}
use Rattle.wal_log.specs.Switching.{HoldsOn}
use Rattle.wal_log.proofs.BeginLaws.{up_in_vain}
use Rattle.wal_log.proofs.SwitchLaws.{busy_holds, down_no_place, down_since, further_holds, place_told}
use Rattle.wal_log.proofs.WaitLaws.{up_behind}
use Rattle.wal_log.proofs.switching.reserve_or_wait.Given.{Over}
use Rattle.wal_log.proofs.switching.reserve_or_wait.Goals as goal
use Rattle.wal_log.proofs.switching.reserve_or_wait.Goals.{After-look_down}

pub returns-in-Ok-clause-reserves : goal.returns-in-Ok-clause-reserves
returns-in-Ok-clause-reserves g c =
    place_told (setup_of c.args.seated.now) c.args.body.now (view_of c.args.seated.now)
    (view_of c.try_reserve_switch.new.seated) c.in-Ok.tried c.in-Ok.ensures.answers
    c.requires.has c.requires.up

-- the position was busy
module _ (g : Over) (c : After-look_down g) where
  why : TellsWhy (setup_of c.args.seated.now) c.args.body.now (view_of c.args.seated.now)
      (view_of c.try_reserve_switch.new.seated) c.in-Err-Busy.field-0
  why = c.in-Err-Busy.ensures.why

  tried_up : KnowsNoFault (view_of c.try_reserve_switch.new.seated)
  tried_up = up_in_vain (setup_of c.args.seated.now) c.args.body.now
      (view_of c.args.seated.now) (view_of c.try_reserve_switch.new.seated) c.requires.up
      c.in-Err-Busy.field-0 why

  tried : HoldsOn every_lock c.args.seated.now c.try_reserve_switch.new.seated
  tried = busy_holds c.args.seated.now c.try_reserve_switch.new.seated
      (setup_of c.args.seated.now) c.args.body.now _ c.try_reserve_switch.ensures.stays
      (subst (λ (e : ReserveErr). TellsWhy (setup_of c.args.seated.now) c.args.body.now
      (view_of c.args.seated.now) (view_of c.try_reserve_switch.new.seated) e)
      c.in-Err-Busy.field-0-is why) c.requires.has

  looked : HoldsOn every_lock c.args.seated.now c.look_down.new.seated
  looked = further_holds c.args.seated.now c.try_reserve_switch.new.seated c.look_down.new.seated
      every_lock every_lock tried (c.look_down.ensures.holds every_lock tried.has)

pub returns-in_err-look_down-in-Err-Busy-clause-reserves : goal.returns-in_err-look_down-in-Err-Busy-clause-reserves
returns-in_err-look_down-in-Err-Busy-clause-reserves g c =
    let at = (goal.at.returns-in_err-look_down-in-Err-Busy-clause-reserves g c).After-look_down in
    let p = err_from_is_err_and c.from_residual.result c.from_residual.ensures.1 in
    let e = c.in_err-look_down-in-Err-Busy.field-0.0 in
    rw (p.1, p.2) (
      down_no_place (setup_of c.args.seated.now) c.args.body.now (view_of c.args.seated.now)
          (view_of c.look_down.new.seated) e
          (down_since (view_of c.args.seated.now) (view_of c.try_reserve_switch.new.seated)
          (view_of c.look_down.new.seated) (tried g at).goes_on.keeps (tried g at).log_is (tried_up g at) e
          c.in_err-look_down-in-Err-Busy.ensures.looks),
      (looked g at).has,
    )

pub returns-in_err-look_down-in-Err-Busy-clause-goes_on : goal.returns-in_err-look_down-in-Err-Busy-clause-goes_on
returns-in_err-look_down-in-Err-Busy-clause-goes_on g c = (looked g
    (goal.at.returns-in_err-look_down-in-Err-Busy-clause-goes_on g c).After-look_down).goes_on

pub returns-clause-reserves : goal.returns-clause-reserves
returns-clause-reserves g c =
    let at = (goal.at.returns-clause-reserves g c).After-look_down in
    let looks = c.in_ok-look_down-in-Err-Busy.ensures.looks in (
      looked g at,
      looks.0,
      up_behind (view_of c.args.seated.now) (view_of c.try_reserve_switch.new.seated)
          (view_of c.look_down.new.seated) (tried g at).goes_on.keeps looks.1,
    )

pub returns-clause-goes_on : goal.returns-clause-goes_on
returns-clause-goes_on g c =
    (looked g (goal.at.returns-clause-goes_on g c).After-look_down).goes_on
