-- A call waits for a page or for the position: what stays of its pass while it looks again and
-- again.
use Rattle.std.specs.Prelude.{Result, Ok, Err}
use Rattle.std.proofs.Common.{◌≡◌, ℕ, ◌≤◌, MatchResult, max, List, refl, sym, ap, ◌∙◌, subst, arith}
use Rattle.std.proofs.Math.Nat.{le-max_left}
use mathlib.Core.Option.{none}
use Rattle.machine_state.specs.Moves.{ready, unlocked, with_seen}
use Rattle.machine_state.specs.Steps.{IsResting, load_flushed, load_position, load_written, view_behind}
use Rattle.machine_state.specs.Views.{Away, Stage, View}
use Rattle.wal_rule.specs.declared.seated.SeatedPass.{SeatedPass}
use Rattle.wal_rule.specs.declared.writer.LogWriter.{LogWriter}
use Rattle.wal_rule.specs.SeatedPasses.{HasView, StandsAtRest, Steps, view_of}
use Rattle.insert_locks.specs.Watching.{with_sight}
use Rattle.word_ring.specs.Ring.{confirmed_view}
use Rattle.wal_log.specs.declared.fault.Fault.{Fault}
use Rattle.wal_log.specs.declared.fault.Fault.TheVariants.{Disk, Down}
use Rattle.wal_log.specs.Downs.{FindsDown, KnowsNoFault}
use Rattle.wal_log.specs.PassLogs.{log_of_pass}
use Rattle.wal_log.specs.Standing.{ComesToRest, KeepsPass, KeepsWork, SeesMore, StaysAtWork}
use Rattle.wal_log.specs.Waiting.{FindsUp}
use Rattle.wal_log.proofs.FlushLaws.{flushed_work}
use Rattle.wal_log.proofs.Keeping.{both_up, further_work, meets_since, rested_on, same_work}
use Rattle.wal_log.proofs.Seated.{further_seated, hand_is, seat_stays, view_is}
use Rattle.wal_log.proofs.Trying.{HasTriedOn, rests_again}
use Rattle.wal_log.proofs.WaitLaws.{up_behind}

-- ---- a page is looked at

-- looks so far left the pass at its work, with its log, and the disk is up
pub record HasLooked {D : Type 0} (old now : SeatedPass D) : Type 0 where
  pub stays : StaysAtWork old now
  pub log : log_of_pass (view_of now) ≡ log_of_pass (view_of old)
  pub up : KnowsNoFault (view_of now)

pub looked_never : {D : Type 0} → (p : SeatedPass D) → KnowsNoFault (view_of p) → HasLooked p p
looked_never p up = record {
  stays = record {
    stays = record { same_table = refl; same_hand = refl };
    work = same_work (view_of p);
    hold = refl;
  };
  log = refl;
  up = up;
}

pub worked_on : {D : Type 0} → (a b c : SeatedPass D) → StaysAtWork a b → StaysAtWork b c
    → StaysAtWork a c
worked_on a b c x y = record {
  stays = further_seated a b c x.stays y.stays;
  work = further_work (view_of a) (view_of b) (view_of c) x.work y.work;
  hold = y.hold ∙ x.hold;
}

-- an end of a page is met
end_keeps : (end : ℕ) (v : View) → KeepsWork v (confirmed_view end v)
end_keeps end v = record {
  pass = record {
    opening = refl;
    live = refl;
    number = refl;
    spare = refl;
    spare_end = refl;
    joined = refl;
    counts = omega arith;
    rises = omega arith;
    down = λ faults knows. knows;
  };
  place = refl;
  working = refl;
  stage = refl;
  confirmed = le-max_left (v.mapping).confirmed end;
  async = refl;
}

pub end_stays : {D : Type 0} → (end : ℕ) (a b : SeatedPass D)
    → HasView (confirmed_view end (view_of a)) a b → StaysAtWork a b
end_stays end a b has = record {
  stays = seat_stays has;
  work = subst (λ (w : View). KeepsWork (view_of a) w) (sym (view_is has))
      (end_keeps end (view_of a));
  hold = ap (λ (w : View). w.writing.hold) (view_is has);
}

-- one look more: the pass paused, and then met an end
pub looked_again : {D : Type 0} → (old now paused new : SeatedPass D) → HasLooked old now
    → StaysAtWork now paused → log_of_pass (view_of paused) ≡ log_of_pass (view_of now)
    → KnowsNoFault (view_of paused) → (end : ℕ)
    → HasView (confirmed_view end (view_of paused)) paused new → HasLooked old new
looked_again old now paused new looked pause same up end met = record {
  stays = worked_on old paused new (worked_on old now paused looked.stays pause)
      (end_stays end paused new met);
  log = ap (λ (w : View). log_of_pass w) (view_is met) ∙ same ∙ looked.log;
  up = subst KnowsNoFault (sym (view_is met)) (record { met = up.met; set = up.set });
}

-- one look more, at the flushed address
pub looked_at_flushed : {D : Type 0} → (old now new : SeatedPass D) (flushed : ℕ)
    → HasLooked old now → Steps load_flushed flushed now new → HasLooked old new
looked_at_flushed old now new flushed looked load =
    let is = view_is load in record {
      stays = worked_on old now new looked.stays (record {
        stays = seat_stays load;
        work = flushed_work flushed (view_of now) (view_of new) is;
        hold = ap (λ (w : View). w.writing.hold) is;
      });
      log = ap (λ (w : View). log_of_pass w) is ∙ looked.log;
      up = subst KnowsNoFault (sym is) (record {
        met = (looked.up).met;
        set = (looked.up).set;
      });
    }

-- the written address alone was loaded
written_pass : (written : ℕ) (old new : View) → new ≡ view_behind old load_written written none
    → KeepsPass old new
written_pass written old new is = subst (λ (w : View). KeepsPass old w) (sym is) (record {
  opening = refl;
  live = refl;
  number = refl;
  spare = refl;
  spare_end = refl;
  joined = refl;
  counts = omega arith;
  rises = omega arith;
  down = λ faults knows. knows;
})

pub loaded_written : {D : Type 0} → (written : ℕ) (a b : SeatedPass D)
    → Steps load_written written a b → KeepsPass (view_of a) (view_of b)
loaded_written written a b load = written_pass written (view_of a) (view_of b) (view_is load)

written_work : (written : ℕ) (old new : View) → new ≡ view_behind old load_written written none
    → new.mapping.stage ≡ old.mapping.stage → KeepsWork old new
written_work written old new is stage = record {
  pass = written_pass written old new is;
  place = ap (λ (w : View). w.reserving.place) is;
  working = ap (λ (w : View). w.working) is;
  stage = stage;
  confirmed = (let same = ap (λ (w : View). w.mapping.confirmed) is in omega (arith, same));
  async = ap (λ (w : View). w.async_met) is;
}

-- one look more, at the written address: the pass paused before, and maps no page
pub looked_at_written : {D : Type 0} → (old now paused new : SeatedPass D) (written : ℕ)
    → HasLooked old now → StaysAtWork now paused
    → log_of_pass (view_of paused) ≡ log_of_pass (view_of now) → KnowsNoFault (view_of paused)
    → (view_of old).mapping.stage ≡ Away → Steps load_written written paused new
    → HasLooked old new
looked_at_written old now paused new written looked pause same up away load =
    let is = view_is load in
    let before = worked_on old now paused looked.stays pause in
    let stage : (view_of new).mapping.stage ≡ (view_of paused).mapping.stage =
    ap (λ (v : View). v.mapping.stage) is
    ∙ ap (λ (s : Stage). ready written s) (before.work.stage ∙ away)
    ∙ sym (before.work.stage ∙ away) in
    record {
      stays = worked_on old paused new before (record {
        stays = seat_stays load;
        work = written_work written (view_of paused) (view_of new) is stage;
        hold = ap (λ (w : View). w.writing.hold) is;
      });
      log = ap (λ (w : View). log_of_pass w) is ∙ same ∙ looked.log;
      up = subst KnowsNoFault (sym is) (record { met = up.met; set = up.set });
    }

-- a pass at rest that stayed at its work is at rest
pub rests_at_work : {D : Type 0} → (a b : SeatedPass D) → StandsAtRest a → StaysAtWork a b
    → ComesToRest a b
rests_at_work a b rests stays = record {
  same_table = (stays.stays).same_table;
  keeps = (stays.work).pass;
  rests = record {
    rests = rested_on (view_of a) (view_of b) stays.work
        (stays.hold ∙ (rests.rests).hold) rests.rests;
    empty = (stays.stays).same_hand ∙ rests.empty;
  };
}

-- the down value was met behind looks
pub finds_since : (old now new : View) → KnowsNoFault old → KnowsNoFault now → (fault : Fault)
    → FindsDown now new fault → FindsDown old new fault
finds_since old now new before up (Disk faults) finds = absurd finds
finds_since old now new before up (Down faults) finds =
    meets_since old now new faults (both_up old now before up) finds

-- as a last look tells it
pub found_since : {A : Type 0} → (old now new : View) → KnowsNoFault old → KnowsNoFault now
    → KeepsPass old now → (r : Result A Fault)
    → MatchResult r (λ _. KnowsNoFault new × FindsUp now new) (λ e. FindsDown now new e)
    → MatchResult r (λ _. KnowsNoFault new × FindsUp old new) (λ e. FindsDown old new e)
found_since old now new before up keeps (Ok done) ends =
    (ends.0, up_behind old now new keeps ends.1)
found_since old now new before up keeps (Err e) ends = finds_since old now new before up e ends

-- ---- the position is looked at

pub sees_as_before : {D : Type 0} → (p : SeatedPass D) → SeesMore p p
sees_as_before p = record {
  seen = (view_of p).reserving.seen;
  rises = omega arith;
  view = record { same_table = refl; me_is = refl };
}

pub sees_on : {D : Type 0} → (a b c : SeatedPass D) (met : ℕ) → SeesMore a b
    → Steps load_position met b c → SeesMore a c
sees_on {D} a b c met sees load = record {
  seen = max sees.seen (unlocked met);
  rises = (let high = le-max_left sees.seen (unlocked met) in
      let rises = sees.rises in omega (arith, rises, high));
  view = record {
    same_table = load.same_table ∙ (sees.view).same_table;
    me_is = load.me_is
        ∙ ap (λ (m : View × List (ℕ × LogWriter D)). (with_seen (unlocked met) m.0, m.1))
        (sees.view).me_is;
  };
}

-- as a look at the reserved end tells it
pub sees_further : {D : Type 0} → (a b c : SeatedPass D) → SeesMore a b
    → (view_of b).reserving.seen ≤ (view_of c).reserving.seen
    → HasView (with_sight (view_of c).reserving.seen (view_of b)) b c → SeesMore a c
sees_further {D} a b c sees rises has = record {
  seen = (view_of c).reserving.seen;
  rises = (let same = ap (λ (w : View). w.reserving.seen) (view_is sees.view) in
      let before = sees.rises in omega (arith, same, before, rises));
  view = record {
    same_table = has.same_table ∙ (sees.view).same_table;
    me_is = has.me_is
        ∙ ap (λ (m : View × List (ℕ × LogWriter D)).
        (with_sight (view_of c).reserving.seen m.0, m.1)) (sees.view).me_is;
  };
}

-- tries that told nothing, and then a look
sight_keeps : (seen : ℕ) (v : View) → (v.reserving).seen ≤ seen → KeepsPass v (with_sight seen v)
sight_keeps seen v rises = record {
  opening = refl;
  live = refl;
  number = refl;
  spare = refl;
  spare_end = refl;
  joined = refl;
  counts = omega arith;
  rises = rises;
  down = λ faults knows. knows;
}

pub sees_keep : {D : Type 0} → (now new : SeatedPass D) → SeesMore now new
    → KeepsPass (view_of now) (view_of new)
sees_keep now new sees = subst (λ (w : View). KeepsPass (view_of now) w) (sym (view_is sees.view))
    (sight_keeps sees.seen (view_of now) sees.rises)

pub sees_same : {D : Type 0} → (p : SeatedPass D) → SeesMore p p
sees_same p = record {
  seen = ((view_of p).reserving).seen;
  rises = omega arith;
  view = record { same_table = refl; me_is = refl };
}

pub tried_and_looked : {D : Type 0} → (old now new : SeatedPass D) → HasTriedOn old now
    → SeesMore now new → HasTriedOn old new
tried_and_looked old now new tried sees = record {
  comes = rests_again old now new tried.comes (record {
    same_table = (sees.view).same_table;
    keeps = sees_keep now new sees;
    rests = record {
      rests = (let r = ((tried.comes).rests).rests in
          subst IsResting (sym (view_is sees.view)) (record {
            place = r.place;
            locks = r.locks;
            flight = r.flight;
            stage = r.stage;
            hold = r.hold;
          }));
      empty = hand_is sees.view ∙ ((tried.comes).rests).empty;
    };
  });
  log = ap (λ (w : View). log_of_pass w) (view_is sees.view) ∙ tried.log;
  down_set = ap (λ (w : View). w.writing.down_set) (view_is sees.view) ∙ tried.down_set;
  async = ap (λ (w : View). w.async_met) (view_is sees.view) ∙ tried.async;
}
