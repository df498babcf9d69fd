use Rattle.std.proofs.Common.{◌≡◌, Result, Ok, Err, None, [], ◌∷◌, refl, sym, ap, ◌∙◌, subst, arith}
use Rattle.std.proofs.lemmas.Result.{err_from_is_err_and}
use Rattle.machine_state.specs.declared.setup.Setup.{Setup}
use Rattle.wal_rule.specs.SeatedPasses.{setup_of, view_of}
use Rattle.insert_locks.proofs.Runs.{one_lock}
use Rattle.wal_log.specs.declared.beginning.Begun.{Begun}
use Rattle.wal_log.specs.declared.inserting.InsertErr.{InsertErr}
use Rattle.wal_log.specs.declared.inserting.InsertErr.TheVariants.{Down}
use Rattle.wal_log.specs.Inserting.{RefusesInsert}
use Rattle.wal_log.specs.Standing.{ComesToRest, CopiesUnder}
use Rattle.wal_log.proofs.InsertLaws.{receives, receives_only, refuses}
use Rattle.wal_log.proofs.Keeping.{further_pass}
use Rattle.wal_log.proofs.Seated.{same_setup}
use Rattle.wal_log.proofs.inserting.insert_on.Given.{Over}
use Rattle.wal_log.proofs.inserting.insert_on.Goals as goal
use Rattle.wal_log.proofs.inserting.insert_on.Goals.{After-land_and_make_room}

abbrev failed : InsertErr → Result Begun InsertErr
failed e = Err e

not_begun : (b : Begun) (e : InsertErr) → Ok b ≡ failed e → ⊥
not_begun b e is = absurd (cc)

same_err : (e f : InsertErr) → failed e ≡ failed f → e ≡ f
same_err e f is = cc

pub returns-in_err-begun-clause-down_again : goal.returns-in_err-begun-clause-down_again
returns-in_err-begun-clause-down_again g c = λ faults knows.
    let p = err_from_is_err_and c.from_residual.result c.from_residual.ensures.1 in
    p.1 ∙ ap (λ (e : InsertErr). Err e) (p.2 ∙ same_err c.in_err-begun.field-0.0
    (Down faults None) (c.in_err-begun.ensures.down_again faults knows))

pub returns-in_err-begun-clause-inserts : goal.returns-in_err-begun-clause-inserts
returns-in_err-begun-clause-inserts g c =
    let p = err_from_is_err_and c.from_residual.result c.from_residual.ensures.1 in
    rw (p.1, p.2) c.in_err-begun.ensures.begins.0

pub returns-in_err-begun-clause-rests : goal.returns-in_err-begun-clause-rests
returns-in_err-begun-clause-rests g c =
    let went = c.begin.ensures.goes_on in record {
      same_table = went.stays.same_table;
      keeps = went.keeps;
      rests = record {
        rests = c.in_err-begun.ensures.begins.1;
        empty = went.stays.same_hand ∙ c.requires.rests.empty;
      };
    }

pub land_and_make_room-requires-clause-copies : goal.land_and_make_room-requires-clause-copies
land_and_make_room-requires-clause-copies g c =
    let begun = c.in_ok-begun.ensures.begins in
    let stays = c.begin.ensures.goes_on.stays in record {
      some = omega arith;
      are = one_lock c.in_ok-begun.begun.lock.0 begun.lock_low;
      under = subst (λ (s : Setup). CopiesUnder s (c.in_ok-begun.begun.lock.0 ∷ [])
          c.in_ok-begun.begun.placed (view_of c.begin.new.seated))
          (sym (same_setup c.args.seated.now c.begin.new.seated stays.same_table))
          begun.place.copies;
      empty = stays.same_hand ∙ c.requires.rests.empty;
    }

pub returns-in-Ok-clause-inserts : goal.returns-in-Ok-clause-inserts
returns-in-Ok-clause-inserts g c =
    let begun = c.in_ok-begun.ensures.begins in
    let lands = c.in-Ok.ensures.lands begun.place.entry begun.place.in_flight in
    receives (setup_of c.args.seated.now) c.args.body.now (view_of c.args.seated.now)
    (view_of c.begin.new.seated) (view_of c.land_and_make_room.new.seated) c.in_ok-begun.begun begun
    c.begin.ensures.goes_on.keeps c.land_and_make_room.ensures.rests.keeps c.land_and_make_room.ensures.log lands.0 lands.1
    (record { start = c.in_ok-begun.begun.start; end = c.in_ok-begun.begun.end }) refl refl

pub returns-in-Ok-clause-alone : goal.returns-in-Ok-clause-alone
returns-in-Ok-clause-alone g c = λ alone.
    let begun = c.in_ok-begun.ensures.begins in
    let lands = c.in-Ok.ensures.lands begun.place.entry begun.place.in_flight in
    receives_only (setup_of c.args.seated.now) c.args.body.now (view_of c.args.seated.now)
    (view_of c.begin.new.seated) (view_of c.land_and_make_room.new.seated) c.in_ok-begun.begun begun
    c.begin.ensures.goes_on.keeps c.land_and_make_room.ensures.rests.keeps
    c.land_and_make_room.ensures.log
    (c.in-Ok.ensures.alone alone begun.place.entry begun.place.in_flight) lands.1
    (record { start = c.in_ok-begun.begun.start; end = c.in_ok-begun.begun.end }) refl refl

pub returns-in-Err-clause-inserts : goal.returns-in-Err-clause-inserts
returns-in-Err-clause-inserts g c =
    let begun = c.in_ok-begun.ensures.begins in
    subst (λ (e : InsertErr). RefusesInsert (setup_of c.args.seated.now) c.args.body.now
    (view_of c.args.seated.now) (view_of c.land_and_make_room.new.seated) e) (sym c.at.ensures)
    (refuses (setup_of c.args.seated.now) c.args.body.now (view_of c.args.seated.now)
    (view_of c.begin.new.seated) (view_of c.land_and_make_room.new.seated) c.in_ok-begun.begun begun
    c.begin.ensures.goes_on.keeps c.land_and_make_room.ensures.rests.keeps c.land_and_make_room.ensures.log c.in-Err.fault
    (c.in-Err.ensures.lands begun.place.entry begun.place.in_flight))

module _ (g : Over) (c : After-land_and_make_room g) where
  rested : ComesToRest c.args.seated.now c.land_and_make_room.new.seated
  rested = record {
    same_table = c.land_and_make_room.ensures.rests.same_table ∙ c.begin.ensures.goes_on.stays.same_table;
    keeps = further_pass (view_of c.args.seated.now) (view_of c.begin.new.seated)
        (view_of c.land_and_make_room.new.seated) c.begin.ensures.goes_on.keeps c.land_and_make_room.ensures.rests.keeps;
    rests = c.land_and_make_room.ensures.rests.rests;
  }

pub returns-in-Ok-clause-down_again : goal.returns-in-Ok-clause-down_again
returns-in-Ok-clause-down_again g c = λ faults knows. absurd
    (not_begun c.in_ok-begun.begun (Down faults None)
    (c.in_ok-begun.ensures.down_again faults knows))

pub returns-in-Ok-clause-rests : goal.returns-in-Ok-clause-rests
returns-in-Ok-clause-rests g c = rested g (goal.at.returns-in-Ok-clause-rests g c).After-land_and_make_room

pub returns-in-Err-clause-down_again : goal.returns-in-Err-clause-down_again
returns-in-Err-clause-down_again g c = λ faults knows. absurd
    (not_begun c.in_ok-begun.begun (Down faults None)
    (c.in_ok-begun.ensures.down_again faults knows))

pub returns-in-Err-clause-rests : goal.returns-in-Err-clause-rests
returns-in-Err-clause-rests g c = rested g (goal.at.returns-in-Err-clause-rests g c).After-land_and_make_room

pub returns-in_err-begun-clause-async_met : goal.returns-in_err-begun-clause-async_met
returns-in_err-begun-clause-async_met g c = c.begin.ensures.goes_on.async

pub returns-in-Ok-clause-async_met : goal.returns-in-Ok-clause-async_met
returns-in-Ok-clause-async_met g c =
    c.land_and_make_room.ensures.async_met ∙ c.begin.ensures.goes_on.async

pub returns-in-Err-clause-async_met : goal.returns-in-Err-clause-async_met
returns-in-Err-clause-async_met g c =
    c.land_and_make_room.ensures.async_met ∙ c.begin.ensures.goes_on.async
