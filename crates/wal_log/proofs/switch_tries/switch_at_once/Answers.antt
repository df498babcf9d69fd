use Rattle.std.proofs.Common.{Err, sym, ap, subst}
use Rattle.machine_state.specs.Views.{View}
use Rattle.wal_rule.specs.SeatedPasses.{setup_of, view_of}
use Rattle.reserve_lock.specs.declared.switching.SwitchTry.TheVariants.{Switched}
use Rattle.reserve_lock.specs.Reserved.{every_lock}
use Rattle.wal_log.specs.declared.switch_tries.TrySwitchErr.{TrySwitchErr}
use Rattle.wal_log.specs.SwitchTries.{TriesSwitch}
use Rattle.wal_log.proofs.BeginLaws.{holds_in_vain, keeps_in_vain, vain_async}
use Rattle.wal_log.proofs.Seated.{view_is}
use Rattle.wal_log.proofs.SwitchLaws.{start_holds, start_keeps, switch_begun, try_keeps}
use Rattle.wal_log.proofs.SwitchTryLaws.{back_goes_on, stayed_at_once, vain_at_once}
use Rattle.wal_log.proofs.Unlocking.{locks_held, none_flies}
use Rattle.wal_log.proofs.switch_tries.switch_at_once.Goals as goal

-- ---- it was reserved

pub returns-in-Ok-Switched-clause-tries : goal.returns-in-Ok-Switched-clause-tries
returns-in-Ok-Switched-clause-tries g c =
    let told = rw c.in-Ok-Switched.field-0-is at c.in-Ok-Switched.ensures.answers in
    switch_begun (setup_of c.args.seated.now) c.args.body.now (view_of c.args.seated.now)
    (view_of c.try_reserve_switch.new.seated) c.in-Ok-Switched.begun told.0 told.1 c.requires.has
    c.requires.up

pub returns-in-Ok-Switched-clause-goes_on : goal.returns-in-Ok-Switched-clause-goes_on
returns-in-Ok-Switched-clause-goes_on g c =
    let told = rw c.in-Ok-Switched.field-0-is at c.in-Ok-Switched.ensures.answers in record {
      stays = c.try_reserve_switch.ensures.stays;
      keeps = try_keeps (setup_of c.args.seated.now) c.args.body.now (view_of c.args.seated.now)
          (view_of c.try_reserve_switch.new.seated) (Switched c.in-Ok-Switched.begun) told;
      async = ap (λ (v : View). v.async_met) told.0.place.reserved.new_is;
    }

-- ---- the log stood at a segment's start

pub release_below-requires-clause-holds : goal.release_below-requires-clause-holds
release_below-requires-clause-holds g c =
    let stays = rw c.in-Ok-Stayed.field-0-is at c.in-Ok-Stayed.ensures.answers in
    locks_held every_lock (view_of c.try_reserve_switch.new.seated)
    (start_holds (setup_of c.args.seated.now) c.args.body.now (view_of c.args.seated.now)
    (view_of c.try_reserve_switch.new.seated) c.in-Ok-Stayed.end.0 stays c.requires.has)

pub release_below-requires-clause-left : goal.release_below-requires-clause-left
release_below-requires-clause-left g c =
    let stays = rw c.in-Ok-Stayed.field-0-is at c.in-Ok-Stayed.ensures.answers in
    none_flies every_lock (view_of c.try_reserve_switch.new.seated)
    (start_holds (setup_of c.args.seated.now) c.args.body.now (view_of c.args.seated.now)
    (view_of c.try_reserve_switch.new.seated) c.in-Ok-Stayed.end.0 stays c.requires.has)

pub returns-in-Ok-Stayed-clause-tries : goal.returns-in-Ok-Stayed-clause-tries
returns-in-Ok-Stayed-clause-tries g c =
    let stays = rw c.in-Ok-Stayed.field-0-is at c.in-Ok-Stayed.ensures.answers in
    stayed_at_once (setup_of c.args.seated.now) c.args.body.now (view_of c.args.seated.now)
    (view_of c.try_reserve_switch.new.seated) (view_of c.release_below.new.seated) c.requires.has
    c.requires.up (view_is c.release_below.ensures.view) c.in-Ok-Stayed.end.0 stays

pub returns-in-Ok-Stayed-clause-goes_on : goal.returns-in-Ok-Stayed-clause-goes_on
returns-in-Ok-Stayed-clause-goes_on g c =
    let stays = rw c.in-Ok-Stayed.field-0-is at c.in-Ok-Stayed.ensures.answers in
    back_goes_on c.args.seated.now c.try_reserve_switch.new.seated c.release_below.new.seated
    c.try_reserve_switch.ensures.stays
    (start_keeps (setup_of c.args.seated.now) c.args.body.now (view_of c.args.seated.now)
    (view_of c.try_reserve_switch.new.seated) c.in-Ok-Stayed.end.0 stays)
    (ap (λ (v : View). v.async_met) stays.new_is) c.release_below.ensures.view

-- ---- the position was somebody else's, or the log was full

pub release_below-requires-in-Err-clause-holds : goal.release_below-requires-in-Err-clause-holds
release_below-requires-in-Err-clause-holds g c =
    locks_held every_lock (view_of c.try_reserve_switch.new.seated)
    (holds_in_vain (setup_of c.args.seated.now) c.args.body.now (view_of c.args.seated.now)
    (view_of c.try_reserve_switch.new.seated) every_lock c.requires.has c.in-Err.e
    c.in-Err.ensures.why)

pub release_below-requires-in-Err-clause-left : goal.release_below-requires-in-Err-clause-left
release_below-requires-in-Err-clause-left g c =
    none_flies every_lock (view_of c.try_reserve_switch.new.seated)
    (holds_in_vain (setup_of c.args.seated.now) c.args.body.now (view_of c.args.seated.now)
    (view_of c.try_reserve_switch.new.seated) every_lock c.requires.has c.in-Err.e
    c.in-Err.ensures.why)

pub returns-in-Err-clause-tries : goal.returns-in-Err-clause-tries
returns-in-Err-clause-tries g c =
    subst (λ (t : TrySwitchErr). TriesSwitch (setup_of c.args.seated.now) c.args.body.now
    (view_of c.args.seated.now) (Err t) (view_of c.release_below-in-Err.new.seated))
    (sym c.from.ensures)
    (vain_at_once (setup_of c.args.seated.now) c.args.body.now (view_of c.args.seated.now)
    (view_of c.try_reserve_switch.new.seated) (view_of c.release_below-in-Err.new.seated)
    c.requires.has c.requires.up (view_is c.release_below-in-Err.ensures.view) c.in-Err.e
    c.in-Err.ensures.why c.in-Err.ensures.no_room)

pub returns-in-Err-clause-goes_on : goal.returns-in-Err-clause-goes_on
returns-in-Err-clause-goes_on g c =
    back_goes_on c.args.seated.now c.try_reserve_switch.new.seated
    c.release_below-in-Err.new.seated c.try_reserve_switch.ensures.stays
    (keeps_in_vain (setup_of c.args.seated.now) c.args.body.now (view_of c.args.seated.now)
    (view_of c.try_reserve_switch.new.seated) c.in-Err.e c.in-Err.ensures.why)
    (vain_async (setup_of c.args.seated.now) c.args.body.now (view_of c.args.seated.now)
    (view_of c.try_reserve_switch.new.seated) c.in-Err.e c.in-Err.ensures.why)
    c.release_below-in-Err.ensures.view
