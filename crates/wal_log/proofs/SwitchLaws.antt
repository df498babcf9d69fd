-- What a segment switch leaves of its pass: while it takes its locks, where it is not reserved, and
-- once it is copied.
use Rattle.std.specs.Prelude.{Result, Ok, Err}
use Rattle.std.proofs.Common.{◌≡◌, ℕ, ◌+◌, ◌%◌, ◌<◌, ◌≤◌, Contains, List, [], ◌∷◌, ◌++◌, refl, sym, ap, ◌∙◌, subst, arith}
use Rattle.wal_spelling.specs.Spelling.{Assembled}
use Rattle.wal_page.specs.Order.{Entry}
use Rattle.wal_page.specs.Placed.{placed_end}
use Rattle.machine_state.specs.declared.setup.Setup.{Setup}
use Rattle.machine_state.specs.Locked.{most_told}
use Rattle.machine_state.specs.Steps.{load_down, IsResting}
use Rattle.machine_state.specs.Views.{AtSegmentStart, Flight, Landed, View, Working}
use Rattle.machine_state.specs.Words.{end_form}
use Rattle.wal_rule.specs.declared.seated.SeatedPass.{SeatedPass}
use Rattle.wal_rule.specs.Downs.{KnowsDown}
use Rattle.wal_rule.specs.SeatedPasses.{HasView, StandsAtRest, StaysSeated, Steps, setup_of, view_of}
use Rattle.insert_locks.specs.Holding.{HasTold, MayTell, lock_run}
use Rattle.insert_locks.specs.Taking.{with_lock}
use Rattle.insert_locks.specs.Watching.{with_sight}
use Rattle.insert_locks.proofs.Runs.{run_locks, run_more}
use Rattle.reserve_lock.specs.declared.reserving.ReserveErr.TheVariants as reserving
use Rattle.reserve_lock.specs.declared.reserving.Reserved.{Reserved}
use Rattle.reserve_lock.specs.declared.switching.SwitchTry.{SwitchTry}
use Rattle.reserve_lock.specs.declared.switching.SwitchTry.TheVariants as tries
use Rattle.reserve_lock.specs.Reserved as reserved
use Rattle.reserve_lock.specs.Reserved.{IsLogFull, StaysAtStart, TellsWhy, every_lock}
use Rattle.wal_log.specs.declared.fault.Fault.{Fault}
use Rattle.wal_log.specs.declared.fault.Fault.TheVariants.{Disk, Down}
use Rattle.wal_log.specs.declared.inserting.InsertErr.{InsertErr}
use Rattle.wal_log.specs.declared.switching.Switch.{Switch}
use Rattle.wal_log.specs.declared.switching.Switch.TheVariants.{Done, Stayed}
use Rattle.wal_log.specs.Beginning.{IsBegunUnder}
use Rattle.wal_log.specs.Downs.{KnowsNoFault, MeetsFault}
use Rattle.wal_log.specs.Inserting.{insert_err_of_fault}
use Rattle.wal_log.specs.PassLogs.{PassLog, log_of_pass}
use Rattle.machine_state.specs.PassLogs.{log_with_stay}
use Rattle.wal_log.specs.Standing.{ComesToRest, HasLocks, HoldsLocks, KeepsPass}
use Rattle.wal_log.specs.Switching.{AnswersPlace, AnswersSwitch, FindsNoRoom, FindsSegmentStart, HasSwitched, HoldsOn, IsSwitchBegun, IsSwitchDone, IsSwitchEntry, IsSwitchStarted, RefusesSwitch, TellsDown, TellsNoPlace}
use Rattle.wal_log.specs.Waiting.{IsSeenTold}
use Rattle.wal_log.specs.Whole.{CopiesWhole}
use Rattle.wal_log.proofs.BeginLaws.{begun_since, begun_under, full_in_vain, full_rests, full_since, holds_in_vain, keeps_in_vain, loaded_keeps, loaded_log, place_keeps, reserved_since, seen_in_vain, stopped_holds, stopped_keeps, stopped_up}
use Rattle.wal_log.proofs.InsertLaws.{ends_there, met_since, reserved_still}
use Rattle.wal_log.proofs.Keeping.{both_up, further_pass, same_pass, up_before}
use Rattle.wal_log.proofs.Plain.{down_loaded}
use Rattle.wal_log.proofs.Refusals.{refused_as, refused_rests, refused_since}
use Rattle.wal_log.proofs.Seated.{further_seated, own_setup, same_setup, seat_stays, view_is}
use Rattle.wal_log.proofs.Unlocking.{rested, rested_keeps}
use Rattle.wal_log.proofs.WholeLaws.{copied_since}

-- ---- locks, and nothing else

module _ (v : View) where
  pub rest_holds : IsResting v → HasLocks [] v
  rest_holds rests = record {
    working = ap (λ (locks : List ℕ). record v.working { locks = locks }) rests.locks
        ∙ ap (λ (f : Flight). record { locks = []; flight = f }) rests.flight;
    place = rests.place;
    stage = rests.stage;
    hold = rests.hold;
  }

  pub holds_rest : HasLocks [] v → IsResting v
  holds_rest has = record {
    place = has.place;
    locks = ap (λ (w : Working). w.locks) has.working;
    flight = ap (λ (w : Working). w.flight) has.working;
    stage = has.stage;
    hold = has.hold;
  }

  -- one more is taken
  lock_keeps : (lock : ℕ) → KeepsPass v (with_lock lock v)
  lock_keeps lock = record {
    opening = refl;
    live = refl;
    number = refl;
    spare = refl;
    spare_end = refl;
    joined = refl;
    counts = omega arith;
    rises = omega arith;
    down = λ faults knows. knows;
  }

  lock_more : (count : ℕ) → HasLocks (lock_run 0 count) v
      → HasLocks (lock_run 0 (count + 1)) (with_lock count v)
  lock_more count has = record {
    working = ap (λ (w : Working). record w { locks = w.locks ++ count ∷ [] }) has.working
        ∙ ap (λ (locks : List ℕ). record { locks = locks; flight = Landed })
        (run_more count);
    place = has.place;
    stage = has.stage;
    hold = has.hold;
  }

-- ---- at a table

module _ {D : Type 0} where
  pub first_holds : (p : SeatedPass D) (locks : List ℕ) → HasLocks locks (view_of p)
      → HoldsOn locks p p
  first_holds p locks has = record {
    goes_on = record {
      stays = record { same_table = refl; same_hand = refl };
      keeps = same_pass (view_of p);
      async = refl;
    };
    log_is = refl;
    has = has;
  }

  pub further_holds : (a b c : SeatedPass D) (locks more : List ℕ) → HoldsOn locks a b
      → HoldsOn more b c → HoldsOn more a c
  further_holds a b c locks more x y = record {
    goes_on = record {
      stays = further_seated a b c (x.goes_on).stays (y.goes_on).stays;
      keeps = further_pass (view_of a) (view_of b) (view_of c) (x.goes_on).keeps
          (y.goes_on).keeps;
      async = (y.goes_on).async ∙ (x.goes_on).async;
    };
    log_is = y.log_is ∙ x.log_is;
    has = y.has;
  }

  -- a step of a pass that leaves this view
  pub steps_on : (old new : SeatedPass D) (v : View) → HasView v old new → KeepsPass (view_of old) v
      → v.async_met ≡ (view_of old).async_met
      → log_of_pass v ≡ log_of_pass (view_of old) → (locks : List ℕ) → HasLocks locks v
      → HoldsOn locks old new
  steps_on old new v is keeps async same locks has = record {
    goes_on = record {
      stays = seat_stays is;
      keeps = subst (KeepsPass (view_of old)) (sym (view_is is)) keeps;
      async = ap (λ (w : View). w.async_met) (view_is is) ∙ async;
    };
    log_is = ap (λ (w : View). log_of_pass w) (view_is is) ∙ same;
    has = subst (HasLocks locks) (sym (view_is is)) has;
  }

  pub lock_taken : (old new : SeatedPass D) (lock : ℕ)
      → HasView (with_lock lock (view_of old)) old new → HasLocks (lock_run 0 lock) (view_of old)
      → HoldsOn (lock_run 0 (lock + 1)) old new
  lock_taken old new lock is has = steps_on old new (with_lock lock (view_of old)) is
      (lock_keeps (view_of old) lock) refl refl (lock_run 0 (lock + 1))
      (lock_more (view_of old) lock has)

  pub taken_up : (old new : SeatedPass D) (lock : ℕ)
      → HasView (with_lock lock (view_of old)) old new → KnowsNoFault (view_of old)
      → KnowsNoFault (view_of new)
  taken_up old new lock is up =
      subst KnowsNoFault (sym (view_is is)) (record { met = up.met; set = up.set })

  -- nothing was done
  pub vain_holds : (old new : SeatedPass D) → HasView (view_of old) old new → (locks : List ℕ)
      → HasLocks locks (view_of old) → HoldsOn locks old new
  vain_holds old new is locks has =
      steps_on old new (view_of old) is (same_pass (view_of old)) refl refl locks has

  pub vain_up : (old new : SeatedPass D) → HasView (view_of old) old new
      → KnowsNoFault (view_of old) → KnowsNoFault (view_of new)
  vain_up old new is up = subst KnowsNoFault (sym (view_is is)) up

  pub looked_holds : (old new : SeatedPass D) (met : ℕ) → Steps load_down met old new
      → ((faults : ℕ) → KnowsDown faults (view_of old) → met ≡ faults) → (locks : List ℕ)
      → HasLocks locks (view_of old) → HoldsOn locks old new
  looked_holds old new met load known locks has = record {
    goes_on = record {
      stays = seat_stays load;
      keeps = loaded_keeps (view_of old) (view_of new) met (view_is load) known;
      async = ap (λ (w : View). w.async_met) (view_is load);
    };
    log_is = loaded_log (view_of old) (view_of new) met (view_is load) known;
    has = subst (HasLocks locks) (sym (view_is load ∙ down_loaded met (view_of old))) (record {
      working = has.working;
      place = has.place;
      stage = has.stage;
      hold = has.hold;
    });
  }

  pub released_holds : (old new : SeatedPass D) (locks : List ℕ)
      → HasView (rested (view_of old)) old new → HasLocks locks (view_of old)
      → HoldsOn [] old new
  released_holds old new locks is has = steps_on old new (rested (view_of old)) is
      (rested_keeps (view_of old) (view_of old) (same_pass (view_of old))) refl refl [] (record {
        working = refl;
        place = has.place;
        stage = has.stage;
        hold = has.hold;
      })

  pub holds_comes : (old new : SeatedPass D) → StandsAtRest old → HoldsOn [] old new
      → ComesToRest old new
  holds_comes old new rests holds = record {
    same_table = ((holds.goes_on).stays).same_table;
    keeps = (holds.goes_on).keeps;
    rests = record {
      rests = holds_rest (view_of new) holds.has;
      empty = ((holds.goes_on).stays).same_hand ∙ rests.empty;
    };
  }

  -- ---- how far records are reserved is seen, and told under the locks that are held

  pub may_tell_seen : (old p : SeatedPass D) (count upto : ℕ)
      → HasView (with_sight ((view_of p).reserving).seen (view_of old)) old p
      → HasLocks (lock_run 0 count) (view_of old)
      → upto ≡ end_form (setup_of old) ((view_of p).reserving).seen → upto % 8 ≡ 0
      → MayTell (lock_run 0 count) upto (view_of p)
  may_tell_seen old p count upto sees has is whole = λ lock among.
      let v : View = view_of p in
      let end : ℕ = end_form (v.opening).setup (v.reserving).seen in
      let same : (v.opening).setup ≡ setup_of old =
      own_setup p ∙ same_setup old p sees.same_table in
      let own : upto ≡ end = is ∙ ap (λ (s : Setup). end_form s (v.reserving).seen) (sym same) in
      let holds : v.working ≡ record { locks = lock_run 0 count; flight = Landed } =
      ap (λ (w : View). w.working) (view_is sees) ∙ has.working in (
        subst (λ (locks : List ℕ). Contains locks lock)
            (sym (ap (λ (w : Working). w.locks) holds)) among,
        subst (λ (f : Flight). upto < most_told ((v.opening).setup).seg_size end lock f)
            (sym (ap (λ (w : Working). w.flight) holds)) (omega (arith, own)),
        whole,
      )

  -- what was told under them stays told behind a look at the down value
  pub looked_told : (old new : SeatedPass D) (met : ℕ) → Steps load_down met old new
      → (locks : List ℕ) → IsSeenTold locks (view_of old) → IsSeenTold locks (view_of new)
  looked_told old new met load locks told = subst (λ (v : View). IsSeenTold locks v)
      (sym (view_is load ∙ down_loaded met (view_of old)))
      (record { told = told.told; each = told.each })

  pub seen_told : (old p new : SeatedPass D) (locks : List ℕ) (upto : ℕ)
      → HasView (with_sight ((view_of p).reserving).seen (view_of old)) old p
      → upto ≡ end_form (setup_of old) ((view_of p).reserving).seen → HasTold locks upto p new
      → IsSeenTold locks (view_of new)
  seen_told old p new locks upto sees is told =
      let v : View = view_of p in
      let same : (v.opening).setup ≡ setup_of old =
      own_setup p ∙ same_setup old p sees.same_table in
      subst (λ (w : View). IsSeenTold locks w) (sym (view_is told.view)) (record {
        told = is ∙ ap (λ (s : Setup). end_form s (v.reserving).seen) (sym same);
        each = told.each;
      })

  -- all locks are held, with nothing in hand
  pub holds_all : (old new : SeatedPass D) → StandsAtRest old → HoldsOn every_lock old new
      → HoldsLocks every_lock new
  holds_all old new rests holds = record {
    some = omega arith;
    are = run_locks 8 (omega arith);
    has = holds.has;
    empty = ((holds.goes_on).stays).same_hand ∙ rests.empty;
  }

-- ---- the disk had failed

abbrev pub failed : InsertErr → Result (Unit {0}) InsertErr
failed e = Err e

pub same_err : (e f : InsertErr) → failed e ≡ failed f → e ≡ f
same_err e f is = cc

pub not_done : (u : Unit {0}) (e : InsertErr) → Ok u ≡ failed e → ⊥
not_done u e is = absurd (cc)

-- since a view from which the pass kept what it keeps, with its log, and knew no fault
pub down_since : (u v w : View) → KeepsPass u v → log_of_pass v ≡ log_of_pass u → KnowsNoFault v
    → (e : InsertErr) → TellsDown v w e → TellsDown u w e
down_since u v w keeps same up e told = refused_since _ _ _ _ u v w same
    (both_up u v (up_before u v keeps up) up) (λ free no. no) (λ start no. no) e told

-- and so with the locks given back
pub down_rests : (u w new : View) → new ≡ rested w → (e : InsertErr) → TellsDown u w e
    → TellsDown u new e
down_rests u w new is e told = refused_rests _ _ u w new is (λ free no. no) e told

pub down_no_place : (setup : Setup) (body : Assembled) (u w : View) (e : InsertErr)
    → TellsDown u w e → TellsNoPlace setup body u w e
down_no_place setup body u w e told =
    refused_as _ _ _ _ u w (λ free no. absurd no) (λ start no. no) e told

-- ---- the place

module _ (setup : Setup) (body : Assembled) (old new : View) where
  pub no_place_refuses : (e : InsertErr) → TellsNoPlace setup body old new e
      → RefusesSwitch setup body old new e
  no_place_refuses e told =
      refused_as _ _ _ _ old new (λ free room. room) (λ start no. absurd no) e told

  -- the switch was reserved
  pub switch_begun : (r : Reserved) → reserved.IsSwitchReserved setup body old new r.start.0 r.placed
      → r.end.0 ≡ placed_end r.placed → HasLocks every_lock old → KnowsNoFault old
      → IsSwitchBegun setup body old new r
  switch_begun r is end holds up =
      let b = begun_under setup body every_lock old new r.start.0 r.end.0 r.placed is.place end holds
      up in record {
        place = b.0;
        switch = subst (IsSwitchEntry setup) (sym b.1)
            (record { switches = is.switches; inside = is.inside });
      }

  -- the log stood at a segment's start
  pub start_found : (end : ℕ) → StaysAtStart setup end old new → KnowsNoFault old
      → FindsSegmentStart setup end old new
  start_found end stays up = record {
    at = stays.at;
    behind_seen = stays.behind_seen;
    within = stays.within;
    end_is = stays.end_is;
    starts = stays.starts;
    seen = seen_in_vain setup body old new AtSegmentStart stays.at stays.new_is;
    log_is = ap (λ (v : View). log_of_pass v) stays.new_is;
    up = subst KnowsNoFault (sym stays.new_is) (stopped_up old AtSegmentStart stays.at up);
  }

  pub start_keeps : (end : ℕ) → StaysAtStart setup end old new → KeepsPass old new
  start_keeps end stays =
      subst (KeepsPass old) (sym stays.new_is) (stopped_keeps old AtSegmentStart stays.at)

  pub start_holds : (end : ℕ) → StaysAtStart setup end old new → HasLocks every_lock old
      → HasLocks every_lock new
  start_holds end stays holds = subst (HasLocks every_lock) (sym stays.new_is)
      (stopped_holds old AtSegmentStart stays.at every_lock holds)

  -- the log was full
  pub no_room_found : (free : ℕ) → IsLogFull setup body free old new → (1 ≤ free) × (free < 24)
      → FindsNoRoom setup body free old new
  no_room_found free is few = record {
    full = full_in_vain setup body old new free is;
    some = few.0;
    few = few.1;
  }

  -- a try was not in vain
  pub place_told : (t : SwitchTry) → reserved.AnswersSwitchTry setup body old new t
      → HasLocks every_lock old → KnowsNoFault old → AnswersPlace setup body old (Ok t) new
  place_told (tries.Switched r) told holds up = switch_begun r told.0 told.1 holds up
  place_told (tries.Stayed end) told holds up =
      (start_found end.0 told up, start_holds end.0 told holds)

  pub try_keeps : (t : SwitchTry) → reserved.AnswersSwitchTry setup body old new t → KeepsPass old new
  try_keeps (tries.Switched r) told =
      place_keeps setup body old new every_lock r.start.0 r.placed (told.0).place
  try_keeps (tries.Stayed end) told = start_keeps end.0 told

-- the position was busy
pub busy_holds : {D : Type 0} → (old new : SeatedPass D) (setup : Setup) (body : Assembled)
    (seen : ℕ) → StaysSeated old new
    → TellsWhy setup body (view_of old) (view_of new) (reserving.Busy seen)
    → HasLocks every_lock (view_of old) → HoldsOn every_lock old new
busy_holds old new setup body seen stays why holds = record {
  goes_on = record {
    stays = stays;
    keeps = keeps_in_vain setup body (view_of old) (view_of new) (reserving.Busy seen) why;
    async = ap (λ (v : View). v.async_met) why.new_is;
  };
  log_is = ap (λ (v : View). log_of_pass v) why.new_is;
  has = holds_in_vain setup body (view_of old) (view_of new) every_lock holds (reserving.Busy seen)
      why;
}

-- ---- since an earlier view, from which the pass's log is the same

module _ (setup : Setup) (body : Assembled) (old between new : View)
    (keeps : KeepsPass old between) (same : log_of_pass between ≡ log_of_pass old)
    (up : KnowsNoFault between) where
  set_none : between.writing.down_set ≡ old.writing.down_set
  set_none = both_up old between (up_before old between keeps up) up

  start_since : (end : ℕ) → FindsSegmentStart setup end between new
      → FindsSegmentStart setup end old new
  start_since end f = record {
    at = f.at;
    behind_seen = omega (arith, keeps.rises, f.behind_seen);
    within = f.within;
    end_is = f.end_is;
    starts = f.starts;
    seen = f.seen;
    log_is = f.log_is ∙ ap (λ (l : PassLog). log_with_stay f.at l) same;
    up = f.up;
  }

  pub no_room_since : (free : ℕ) → FindsNoRoom setup body free between new
      → FindsNoRoom setup body free old new
  no_room_since free f = record {
    full = full_since setup body old between new keeps same free f.full;
    some = f.some;
    few = f.few;
  }

  begun_earlier : (r : Reserved) → IsSwitchBegun setup body between new r
      → IsSwitchBegun setup body old new r
  begun_earlier r b =
      let since = begun_since setup body old between new keeps same every_lock r.start.0 r.end.0
      r.placed b.place in record {
        place = since.0;
        switch = subst (IsSwitchEntry setup) (sym since.1) b.switch;
      }

  pub place_since : (r : Result SwitchTry InsertErr) → AnswersPlace setup body between r new
      → AnswersPlace setup body old r new
  place_since (Ok (tries.Switched r)) told = begun_earlier r told
  place_since (Ok (tries.Stayed end)) told = (start_since end.0 told.0, told.1)
  place_since (Err e) told = (
    refused_since _ _ _ _ old between new same set_none no_room_since (λ start no. no) e told.0,
    told.1,
  )

  switched_since : (e : Entry) → HasSwitched setup body between new e → HasSwitched setup body old new e
  switched_since e s = record {
    reserved = reserved_since setup body old between new keeps same e s.reserved;
    switch = s.switch;
  }

  done_since : (start end : ℕ) → IsSwitchDone setup body between new start end
      → IsSwitchDone setup body old new start end
  done_since start end d = record {
    entry = d.entry;
    switched = switched_since d.entry d.switched;
    copied = copied_since old between new d.entry keeps d.copied;
    start_is = d.start_is;
    end_is = d.end_is;
    up = d.up;
  }

  started_since : (start : ℕ) → IsSwitchStarted setup body between new start
      → IsSwitchStarted setup body old new start
  started_since start s = record {
    entry = s.entry;
    switched = switched_since s.entry s.switched;
    start_is = s.start_is;
  }

  pub switch_since : (r : Result Switch InsertErr) → AnswersSwitch setup body between r new
      → AnswersSwitch setup body old r new
  switch_since (Ok (Done start end)) told = done_since start.0 end.0 told
  switch_since (Ok (Stayed end)) told = start_since end.0 told
  switch_since (Err e) told =
      refused_since _ _ _ _ old between new same set_none no_room_since started_since e told

-- ---- the locks are given back, where nothing was reserved

module _ (setup : Setup) (body : Assembled) (old v new : View) (is : new ≡ rested v) where
  pub start_rests : (end : ℕ) → FindsSegmentStart setup end old v
      → FindsSegmentStart setup end old new
  start_rests end f = subst (FindsSegmentStart setup end old) (sym is) (record {
    at = f.at;
    behind_seen = f.behind_seen;
    within = f.within;
    end_is = f.end_is;
    starts = f.starts;
    seen = f.seen;
    log_is = f.log_is;
    up = record { met = (f.up).met; set = (f.up).set };
  })

  pub room_rests : (free : ℕ) → FindsNoRoom setup body free old v → FindsNoRoom setup body free old new
  room_rests free told = subst (FindsNoRoom setup body free old) (sym is) (record {
    full = full_rests setup body free old v told.full;
    some = told.some;
    few = told.few;
  })

  pub no_place_rests : (e : InsertErr) → TellsNoPlace setup body old v e
      → RefusesSwitch setup body old new e
  no_place_rests e told =
      no_place_refuses setup body old new e (refused_rests _ _ old v new is room_rests e told)

-- ---- it was copied whole, or given up

module _ (setup : Setup) (body : Assembled) (old mid new : View) (r : Reserved)
    (begun : IsSwitchBegun setup body old mid r) (before : KeepsPass old mid)
    (keeps : KeepsPass mid new) (same : log_of_pass new ≡ log_of_pass mid) where
  abbrev place : IsBegunUnder setup body every_lock old mid r.start.0 r.end.0 r.placed
  place = begun.place

  switched : HasSwitched setup body old new place.entry
  switched = record {
    reserved = reserved_still setup body every_lock old mid new r.start.0 r.end.0 r.placed place
        before keeps same;
    switch = begun.switch;
  }

  pub switch_done : CopiesWhole mid new place.entry → KnowsNoFault new
      → IsSwitchDone setup body old new r.start.0 r.end.0
  switch_done whole up = record {
    entry = place.entry;
    switched = switched;
    copied = copied_since old mid new place.entry before whole;
    start_is = place.start_is;
    end_is = ends_there setup body every_lock old mid new r.start.0 r.end.0 r.placed place before
        keeps same;
    up = up;
  }

  started : IsSwitchStarted setup body old new r.start.0
  started = record { entry = place.entry; switched = switched; start_is = place.start_is }

  pub switch_fails : (fault : Fault) → MeetsFault mid new fault
      → RefusesSwitch setup body old new (insert_err_of_fault r.start fault)
  switch_fails (Disk n) told = (started, told)
  switch_fails (Down n) told = (
    started,
    met_since setup body every_lock old mid new r.start.0 r.end.0 r.placed place before keeps same n
        told,
  )
