use Rattle.std.proofs.Common.{ℕ, Err, sym, ap, ◌∙◌, subst}
use Rattle.std.proofs.lemmas.Result.{err_from_is_err_and}
use Rattle.machine_state.specs.Steps.{IsResting}
use Rattle.machine_state.specs.Views.{View}
use Rattle.wal_rule.specs.SeatedPasses.{setup_of, view_of}
use Rattle.insert_locks.specs.Taking.{AreHeldWords}
use Rattle.wal_log.specs.Beginning.{try_err_known_down}
use Rattle.wal_log.proofs.Keeping.{further_pass}
use Rattle.wal_log.proofs.BeginLaws.{answers_since, held_one, loaded_keeps, loaded_rests, none_known, taken_keeps, taken_log, taken_sets_none, taken_sight, taken_up, vain_loaded}
use Rattle.wal_log.proofs.Seated.{further_seated, same_setup, seat_stays, view_is}
use Rattle.wal_log.proofs.beginning.try_begin.Goals as goal

pub returns-then-faults-ne0-clause-down_again : goal.returns-then-faults-ne0-clause-down_again
returns-then-faults-ne0-clause-down_again g c = λ faults knows.
    ap (λ (n : ℕ). Err (try_err_known_down n)) (c.load_down-faults.ensures.known faults knows)

pub returns-then-faults-ne0-clause-goes_on : goal.returns-then-faults-ne0-clause-goes_on
returns-then-faults-ne0-clause-goes_on g c =
    let load = c.load_down-faults in record {
      stays = seat_stays load.ensures.steps;
      keeps = loaded_keeps (view_of c.args.seated.now) (view_of load.new.self) load.result
          (view_is load.ensures.steps) load.ensures.known;
      async = ap (λ (v : View). v.async_met) (view_is load.ensures.steps);
    }

pub returns-in_err-lock-clause-begins : goal.returns-in_err-lock-clause-begins
returns-in_err-lock-clause-begins g c =
    let p = err_from_is_err_and c.from_residual.result c.from_residual.ensures.1 in
    let load = c.load_down-faults in
    let held = c.in_err-lock.ensures.held in
    let loads = view_is load.ensures.steps in
    let same = view_is held.1 in
    rw (p.1, p.2) (
      (
        subst (λ (v : View). AreHeldWords v c.in_err-lock.field-0.0.seen) (sym same) held.0,
        vain_loaded (view_of c.args.seated.now) (view_of load.new.self) load.result loads
            load.ensures.known c.if-faults-ne0.false (view_of c.try_take.new.seated) same,
      ),
      subst IsResting (sym same) (loaded_rests (view_of c.args.seated.now) (view_of load.new.self)
          load.result loads load.ensures.known c.requires.rests.rests),
    )

pub returns-in_err-lock-clause-down_again : goal.returns-in_err-lock-clause-down_again
returns-in_err-lock-clause-down_again g c =
    let load = c.load_down-faults in
    λ faults knows. absurd (none_known (view_of c.args.seated.now) (view_of load.new.self)
    load.result (view_is load.ensures.steps) load.ensures.known c.if-faults-ne0.false faults knows)

pub returns-in_err-lock-clause-goes_on : goal.returns-in_err-lock-clause-goes_on
returns-in_err-lock-clause-goes_on g c =
    let load = c.load_down-faults in
    let held = c.in_err-lock.ensures.held in record {
      stays = further_seated c.args.seated.now load.new.self c.try_take.new.seated
          (seat_stays load.ensures.steps) (seat_stays held.1);
      keeps = loaded_keeps (view_of c.args.seated.now) (view_of c.try_take.new.seated) load.result
          (view_is held.1 ∙ view_is load.ensures.steps) load.ensures.known;
      async = ap (λ (v : View). v.async_met) (view_is held.1 ∙ view_is load.ensures.steps);
    }

pub reserve_under-requires-clause-holds : goal.reserve_under-requires-clause-holds
reserve_under-requires-clause-holds g c =
    let load = c.load_down-faults in
    let took = c.in_ok-lock.ensures.taken in
    held_one c.args.seated.now load.new.self c.try_take.new.seated load.result load.ensures.steps
    load.ensures.known c.in_ok-lock.lock.0 took.0 took.1 c.requires.rests

pub reserve_under-requires-clause-up : goal.reserve_under-requires-clause-up
reserve_under-requires-clause-up g c =
    let load = c.load_down-faults in
    taken_up (view_of c.args.seated.now) (view_of load.new.self) load.result
    (view_is load.ensures.steps) load.ensures.known c.in_ok-lock.lock.0
    (view_of c.try_take.new.seated) (view_is c.in_ok-lock.ensures.taken.1) c.if-faults-ne0.false

pub returns-clause-begins : goal.returns-clause-begins
returns-clause-begins g c =
    let load = c.load_down-faults in
    let old : View = view_of c.args.seated.now in
    let taken : View = view_of c.try_take.new.seated in
    let new : View = view_of c.reserve_under.new.seated in
    let loads = view_is load.ensures.steps in
    let took = c.in_ok-lock.ensures.taken.1 in
    let takes = view_is took in
    answers_since (setup_of c.args.seated.now) c.args.body.now old taken new
    (taken_keeps old (view_of load.new.self) load.result loads load.ensures.known
    c.in_ok-lock.lock.0 taken takes)
    (taken_log old (view_of load.new.self) load.result loads load.ensures.known c.in_ok-lock.lock.0
    taken takes)
    (taken_sets_none old (view_of load.new.self) load.result loads load.ensures.known
    c.in_ok-lock.lock.0 taken takes) (setup_of c.try_take.new.seated)
    (same_setup c.args.seated.now c.try_take.new.seated
    (took.same_table ∙ load.ensures.steps.same_table))
    c.reserve_under.result
    (λ seen busy. taken_sight old (view_of load.new.self) load.result loads load.ensures.known
    c.in_ok-lock.lock.0 taken takes)
    c.reserve_under.ensures.begins

pub returns-clause-down_again : goal.returns-clause-down_again
returns-clause-down_again g c =
    let load = c.load_down-faults in
    λ faults knows. absurd (none_known (view_of c.args.seated.now) (view_of load.new.self)
    load.result (view_is load.ensures.steps) load.ensures.known c.if-faults-ne0.false faults knows)

pub returns-clause-goes_on : goal.returns-clause-goes_on
returns-clause-goes_on g c =
    let load = c.load_down-faults in
    let took = c.in_ok-lock.ensures.taken.1 in
    let old : View = view_of c.args.seated.now in
    let taken : View = view_of c.try_take.new.seated in record {
      stays = further_seated c.args.seated.now c.try_take.new.seated c.reserve_under.new.seated
          (further_seated c.args.seated.now load.new.self c.try_take.new.seated
          (seat_stays load.ensures.steps) (seat_stays took)) c.reserve_under.ensures.goes_on.stays;
      keeps = further_pass old taken (view_of c.reserve_under.new.seated)
          (taken_keeps old (view_of load.new.self) load.result (view_is load.ensures.steps)
          load.ensures.known c.in_ok-lock.lock.0 taken (view_is took))
          c.reserve_under.ensures.goes_on.keeps;
      async = c.reserve_under.ensures.goes_on.async
          ∙ ap (λ (v : View). v.async_met) (view_is took)
          ∙ ap (λ (v : View). v.async_met) (view_is load.ensures.steps);
    }
