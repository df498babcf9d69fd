use Rattle.std.proofs.Common.{Err, None, [], ap, ◌∙◌, subst}
use Rattle.std.proofs.lemmas.Result.{err_from_is_err_and}
use Rattle.machine_state.specs.declared.setup.Setup.{Setup}
use Rattle.wal_rule.specs.SeatedPasses.{setup_of, view_of}
use Rattle.reserve_lock.specs.Reserved.{every_lock}
use Rattle.wal_log.specs.declared.inserting.InsertErr.{InsertErr}
use Rattle.wal_log.specs.declared.inserting.InsertErr.TheVariants.{Down}
use Rattle.wal_log.specs.Switching.{AnswersSwitch, HoldsOn}
use Rattle.wal_log.proofs.Keeping.{further_pass}
use Rattle.wal_log.proofs.Seated.{same_setup}
use Rattle.wal_log.proofs.SwitchLaws.{down_no_place, down_since, further_holds, holds_all, holds_comes, no_place_refuses, not_done, rest_holds, same_err, switch_since}
use Rattle.wal_log.proofs.switching.switch_on.Given.{Over}
use Rattle.wal_log.proofs.switching.switch_on.Goals as goal
use Rattle.wal_log.proofs.switching.switch_on.Goals.{After-look_down, After-switch_under}

-- ---- the disk had failed, as the pass finds at first

module _ (g : Over) (c : After-look_down g) where
  looked : HoldsOn [] c.args.seated.now c.look_down.new.seated
  looked = c.look_down.ensures.holds [] (rest_holds (view_of c.args.seated.now)
      c.requires.rests.rests)

pub returns-in_err-look_down-clause-switches : goal.returns-in_err-look_down-clause-switches
returns-in_err-look_down-clause-switches g c =
    let p = err_from_is_err_and c.from_residual.result c.from_residual.ensures.1 in
    let setup = setup_of c.args.seated.now in
    let old = view_of c.args.seated.now in
    let new = view_of c.look_down.new.seated in
    let e = c.in_err-look_down.field-0.0 in
    rw (p.1, p.2) (no_place_refuses setup c.args.body.now old new e
    (down_no_place setup c.args.body.now old new e c.in_err-look_down.ensures.looks))

pub returns-in_err-look_down-clause-down_again : goal.returns-in_err-look_down-clause-down_again
returns-in_err-look_down-clause-down_again g c = λ faults knows.
    let p = err_from_is_err_and c.from_residual.result c.from_residual.ensures.1 in
    p.1 ∙ ap (λ (e : InsertErr). Err e) (p.2 ∙ same_err c.in_err-look_down.field-0.0
    (Down faults None) (c.in_err-look_down.ensures.known faults knows))

pub returns-in_err-look_down-clause-rests : goal.returns-in_err-look_down-clause-rests
returns-in_err-look_down-clause-rests g c =
    holds_comes c.args.seated.now c.look_down.new.seated c.requires.rests
    (looked g (goal.at.returns-in_err-look_down-clause-rests g c).After-look_down)

-- ---- as it finds while it takes the locks

pub take_all-requires-clause-has : goal.take_all-requires-clause-has
take_all-requires-clause-has g c =
    (looked g (goal.at.take_all-requires-clause-has g c).After-look_down).has

pub returns-in_err-take_all-clause-switches : goal.returns-in_err-take_all-clause-switches
returns-in_err-take_all-clause-switches g c =
    let p = err_from_is_err_and c.from_residual-in_err-take_all.result
    c.from_residual-in_err-take_all.ensures.1 in
    let setup = setup_of c.args.seated.now in
    let old = view_of c.args.seated.now in
    let mid = view_of c.look_down.new.seated in
    let new = view_of c.take_all.new.seated in
    let e = c.in_err-take_all.field-0.0 in
    let first = looked g (goal.at.returns-in_err-take_all-clause-switches g c).After-look_down in
    let told = c.in_err-take_all.ensures.takes in
    rw (p.1, p.2) (no_place_refuses setup c.args.body.now old new e
    (down_no_place setup c.args.body.now old new e (down_since old mid new first.goes_on.keeps
    first.log_is c.in_ok-look_down.ensures.looks.0 e told.1)))

pub returns-in_err-take_all-clause-down_again : goal.returns-in_err-take_all-clause-down_again
returns-in_err-take_all-clause-down_again g c = λ faults knows. absurd
    (not_done c.in_ok-look_down.field-0 (Down faults None)
    (c.in_ok-look_down.ensures.known faults knows))

pub returns-in_err-take_all-clause-rests : goal.returns-in_err-take_all-clause-rests
returns-in_err-take_all-clause-rests g c =
    let first = looked g (goal.at.returns-in_err-take_all-clause-rests g c).After-look_down in
    holds_comes c.args.seated.now c.take_all.new.seated c.requires.rests
    (further_holds c.args.seated.now c.look_down.new.seated c.take_all.new.seated [] [] first
    c.in_err-take_all.ensures.takes.0)

-- ---- all locks are held

module _ (g : Over) (c : After-switch_under g)
    (first : HoldsOn [] c.args.seated.now c.look_down.new.seated) where
  taken : HoldsOn every_lock c.args.seated.now c.take_all.new.seated
  taken = further_holds c.args.seated.now c.look_down.new.seated c.take_all.new.seated []
      every_lock first c.in_ok-take_all.ensures.takes.0

pub switch_under-requires-clause-holds : goal.switch_under-requires-clause-holds
switch_under-requires-clause-holds g c =
    holds_all c.args.seated.now c.take_all.new.seated c.requires.rests
    (further_holds c.args.seated.now c.look_down.new.seated c.take_all.new.seated [] every_lock
    (looked g (goal.at.switch_under-requires-clause-holds g c).After-look_down)
    c.in_ok-take_all.ensures.takes.0)

pub returns-clause-switches : goal.returns-clause-switches
returns-clause-switches g c =
    let path = goal.at.returns-clause-switches g c in
    let all = taken g path.After-switch_under (looked g path.After-look_down) in
    let body = c.args.body.now in
    let old = view_of c.args.seated.now in
    let mid = view_of c.take_all.new.seated in
    let new = view_of c.switch_under.new.seated in
    switch_since (setup_of c.args.seated.now) body old mid new all.goes_on.keeps all.log_is
    c.in_ok-take_all.ensures.takes.1 c.switch_under.result
    (subst (λ (s : Setup). AnswersSwitch s body mid c.switch_under.result new)
    (same_setup c.args.seated.now c.take_all.new.seated all.goes_on.stays.same_table)
    c.switch_under.ensures.switches)

pub returns-clause-down_again : goal.returns-clause-down_again
returns-clause-down_again g c = λ faults knows. absurd
    (not_done c.in_ok-look_down.field-0 (Down faults None)
    (c.in_ok-look_down.ensures.known faults knows))

pub returns-clause-rests : goal.returns-clause-rests
returns-clause-rests g c =
    let path = goal.at.returns-clause-rests g c in
    let all = taken g path.After-switch_under (looked g path.After-look_down) in record {
      same_table = c.switch_under.ensures.rests.same_table ∙ all.goes_on.stays.same_table;
      keeps = further_pass (view_of c.args.seated.now) (view_of c.take_all.new.seated)
          (view_of c.switch_under.new.seated) all.goes_on.keeps
          c.switch_under.ensures.rests.keeps;
      rests = c.switch_under.ensures.rests.rests;
    }
