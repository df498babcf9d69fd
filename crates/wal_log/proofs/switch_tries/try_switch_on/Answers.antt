use Rattle.std.proofs.Common.{ℕ, Err, [], sym, ap, ◌∙◌, subst}
use Rattle.machine_state.specs.Steps.{IsResting}
use Rattle.machine_state.specs.Views.{View}
use Rattle.machine_state.specs.declared.setup.Setup.{Setup}
use Rattle.wal_rule.specs.SeatedPasses.{setup_of, view_of}
use Rattle.reserve_lock.specs.Reserved.{every_lock}
use Rattle.wal_log.specs.declared.switch_tries.TrySwitchErr.TheVariants.{Down}
use Rattle.wal_log.specs.Switching.{HoldsOn}
use Rattle.wal_log.specs.SwitchTries.{FindsLockTaken, TriesSwitch}
use Rattle.wal_log.proofs.BeginLaws.{load_sets_none, loaded_keeps, loaded_log, loaded_rests, none_known, vain_loaded}
use Rattle.wal_log.proofs.Keeping.{further_pass, none_loaded}
use Rattle.wal_log.proofs.Plain.{down_loaded}
use Rattle.wal_log.proofs.Seated.{further_seated, same_setup, seat_stays, view_is}
use Rattle.wal_log.proofs.SwitchLaws.{looked_holds, rest_holds}
use Rattle.wal_log.proofs.SwitchTryLaws.{all_taken, all_up, tries_since}
use Rattle.wal_log.proofs.switch_tries.try_switch_on.Given.{Over}
use Rattle.wal_log.proofs.switch_tries.try_switch_on.Goals as goal
use Rattle.wal_log.proofs.switch_tries.try_switch_on.Goals.{After-load_down-faults}

-- the down value was loaded, and nothing else has changed
module _ (g : Over) (c : After-load_down-faults g) where
  looked : HoldsOn [] c.args.seated.now c.load_down-faults.new.self
  looked = looked_holds c.args.seated.now c.load_down-faults.new.self c.load_down-faults.result
      c.load_down-faults.ensures.steps c.load_down-faults.ensures.known []
      (rest_holds (view_of c.args.seated.now) c.requires.rests.rests)

  rests : IsResting (view_of c.load_down-faults.new.self)
  rests = loaded_rests (view_of c.args.seated.now) (view_of c.load_down-faults.new.self)
      c.load_down-faults.result (view_is c.load_down-faults.ensures.steps)
      c.load_down-faults.ensures.known c.requires.rests.rests

-- ---- the disk had failed

pub returns-then-faults-ne0-clause-tries : goal.returns-then-faults-ne0-clause-tries
returns-then-faults-ne0-clause-tries g c =
    let load = c.load_down-faults in
    let old = view_of c.args.seated.now in
    let new = view_of load.new.self in
    let is = view_is load.ensures.steps in (
      (
        record {
          met = ap (λ (v : View). v.writing.down_met) is;
          some = c.if-faults-ne0.true;
          set_none = load_sets_none old new load.result is load.ensures.known;
        },
        loaded_log old new load.result is load.ensures.known,
      ),
      rests g (goal.at.returns-then-faults-ne0-clause-tries g c).After-load_down-faults,
    )

pub returns-then-faults-ne0-clause-down_again : goal.returns-then-faults-ne0-clause-down_again
returns-then-faults-ne0-clause-down_again g c = λ faults knows.
    ap (λ (n : ℕ). Err (Down n)) (c.load_down-faults.ensures.known faults knows)

pub returns-then-faults-ne0-clause-goes_on : goal.returns-then-faults-ne0-clause-goes_on
returns-then-faults-ne0-clause-goes_on g c =
    (looked g (goal.at.returns-then-faults-ne0-clause-goes_on g c).After-load_down-faults).goes_on

-- ---- all locks are held

pub take_each-requires : goal.take_each-requires
take_each-requires g c = record {
  has = (looked g (goal.at.take_each-requires g c).After-load_down-faults).has;
}

pub switch_at_once-requires-clause-has : goal.switch_at_once-requires-clause-has
switch_at_once-requires-clause-has g c =
    (all_taken c.args.seated.now c.load_down-faults.new.self c.take_each.new.seated
    (looked g (goal.at.switch_at_once-requires-clause-has g c).After-load_down-faults)
    c.in-Ok.ensures.takes).has

pub switch_at_once-requires-clause-up : goal.switch_at_once-requires-clause-up
switch_at_once-requires-clause-up g c =
    let load = c.load_down-faults in
    all_up load.new.self c.take_each.new.seated c.in-Ok.ensures.takes
    (none_loaded (view_of c.args.seated.now) load.result (view_of load.new.self)
    (view_is load.ensures.steps) load.ensures.known c.if-faults-ne0.false)

pub returns-in-Ok-clause-tries : goal.returns-in-Ok-clause-tries
returns-in-Ok-clause-tries g c =
    let load = c.load_down-faults in
    let old = view_of c.args.seated.now in
    let taken = view_of c.take_each.new.seated in
    let new = view_of c.switch_at_once.new.seated in
    let takes = c.in-Ok.ensures.takes in
    let all : HoldsOn every_lock c.args.seated.now c.take_each.new.seated =
    all_taken c.args.seated.now load.new.self c.take_each.new.seated
    (looked g (goal.at.returns-in-Ok-clause-tries g c).After-load_down-faults) takes in
    tries_since (setup_of c.args.seated.now) c.args.body.now old taken new all.goes_on.keeps
    all.log_is
    (all_up load.new.self c.take_each.new.seated takes
    (none_loaded old load.result (view_of load.new.self) (view_is load.ensures.steps)
    load.ensures.known c.if-faults-ne0.false))
    (ap (λ (v : View). (v.reserving).seen) (view_is takes)
    ∙ ap (λ (v : View). (v.reserving).seen)
    (view_is load.ensures.steps ∙ down_loaded load.result old)) c.switch_at_once.result
    (subst (λ (s : Setup). TriesSwitch s c.args.body.now taken c.switch_at_once.result new)
    (same_setup c.args.seated.now c.take_each.new.seated all.goes_on.stays.same_table)
    c.switch_at_once.ensures.tries)

pub returns-in-Ok-clause-down_again : goal.returns-in-Ok-clause-down_again
returns-in-Ok-clause-down_again g c =
    let load = c.load_down-faults in
    λ faults knows. absurd (none_known (view_of c.args.seated.now) (view_of load.new.self)
    load.result (view_is load.ensures.steps) load.ensures.known c.if-faults-ne0.false faults knows)

pub returns-in-Ok-clause-goes_on : goal.returns-in-Ok-clause-goes_on
returns-in-Ok-clause-goes_on g c =
    let all : HoldsOn every_lock c.args.seated.now c.take_each.new.seated =
    all_taken c.args.seated.now c.load_down-faults.new.self c.take_each.new.seated
    (looked g (goal.at.returns-in-Ok-clause-goes_on g c).After-load_down-faults)
    c.in-Ok.ensures.takes in
    let on = c.switch_at_once.ensures.goes_on in record {
      stays = further_seated c.args.seated.now c.take_each.new.seated c.switch_at_once.new.seated
          all.goes_on.stays on.stays;
      keeps = further_pass (view_of c.args.seated.now) (view_of c.take_each.new.seated)
          (view_of c.switch_at_once.new.seated) all.goes_on.keeps on.keeps;
      async = on.async ∙ all.goes_on.async;
    }

-- ---- a lock was held

pub returns-in-Err-clause-tries : goal.returns-in-Err-clause-tries
returns-in-Err-clause-tries g c =
    let load = c.load_down-faults in
    let same = view_is c.in-Err.ensures.takes.0 in (
      (
        subst (λ (v : View). FindsLockTaken c.in-Err.lock.0 c.in-Err.word v) (sym same)
            c.in-Err.ensures.takes.1,
        vain_loaded (view_of c.args.seated.now) (view_of load.new.self) load.result
            (view_is load.ensures.steps) load.ensures.known c.if-faults-ne0.false
            (view_of c.take_each.new.seated) same,
      ),
      subst IsResting (sym same)
          (rests g (goal.at.returns-in-Err-clause-tries g c).After-load_down-faults),
    )

pub returns-in-Err-clause-down_again : goal.returns-in-Err-clause-down_again
returns-in-Err-clause-down_again g c =
    let load = c.load_down-faults in
    λ faults knows. absurd (none_known (view_of c.args.seated.now) (view_of load.new.self)
    load.result (view_is load.ensures.steps) load.ensures.known c.if-faults-ne0.false faults knows)

pub returns-in-Err-clause-goes_on : goal.returns-in-Err-clause-goes_on
returns-in-Err-clause-goes_on g c =
    let load = c.load_down-faults in
    let vain = c.in-Err.ensures.takes.0 in
    let is = view_is vain ∙ view_is load.ensures.steps in record {
      stays = further_seated c.args.seated.now load.new.self c.take_each.new.seated
          (seat_stays load.ensures.steps) (seat_stays vain);
      keeps = loaded_keeps (view_of c.args.seated.now) (view_of c.take_each.new.seated) load.result
          is load.ensures.known;
      async = ap (λ (v : View). v.async_met) is;
    }
