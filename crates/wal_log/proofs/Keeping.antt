-- What stays of a pass, and of what it is about, stays over several steps.
use Rattle.std.proofs.Common.{◌≡◌, ◌⊎◌, inl, inr, max, ℕ, List, refl, sym, ap, ◌∙◌, subst, arith}
use mathlib.Core.Logic.{dite}
use mathlib.Core.Option.{none}
use native.Mathlib.Decide.{ℕ_discrete}
use Rattle.machine_state.specs.Moves.{after_slot_out, fault_number, lent, with_hold, with_told}
use Rattle.machine_state.specs.Steps.{IsResting, load_down, view_behind}
use Rattle.machine_state.specs.declared.setup.Setup.{Setup}
use Rattle.machine_state.specs.Views.{Idle, Hold, Out, Plain, View, Working}
use Rattle.wal_page.specs.Placed.{PlacedState}
use Rattle.wal_rule.specs.declared.seated.SeatedPass.{SeatedPass}
use Rattle.wal_rule.specs.Downs.{KnowsDown}
use Rattle.wal_rule.specs.SeatedPasses.{view_of}
use Rattle.word_ring.specs.InHand.{ChangesHand}
use Rattle.wal_log.specs.Downs.{KnowsNoFault, MeetsDown, SetsDownItself}
use Rattle.wal_log.specs.Hands.{SetsDownAndRests}
use Rattle.wal_log.specs.Standing.{CopiesUnder, KeepsPass, KeepsWork}
use Rattle.wal_log.proofs.Plain.{down_loaded}

pub same_pass : (v : View) → KeepsPass v v
same_pass v = record {
  opening = refl;
  live = refl;
  number = refl;
  spare = refl;
  spare_end = refl;
  joined = refl;
  counts = omega arith;
  rises = omega arith;
  down = λ faults knows. knows;
}

-- what was told, and under which locks, changes nothing of that
pub told_pass : (upto : ℕ) (under : List ℕ) (v : View) → KeepsPass v (with_told upto under v)
told_pass upto under v = record {
  opening = refl;
  live = refl;
  number = refl;
  spare = refl;
  spare_end = refl;
  joined = refl;
  counts = omega arith;
  rises = omega arith;
  down = λ faults knows. knows;
}

pub further_pass : (a b c : View) → KeepsPass a b → KeepsPass b c → KeepsPass a c
further_pass a b c x y = record {
  opening = y.opening ∙ x.opening;
  live = y.live ∙ x.live;
  number = y.number ∙ x.number;
  spare = y.spare ∙ x.spare;
  spare_end = y.spare_end ∙ x.spare_end;
  joined = y.joined ∙ x.joined;
  counts = omega (arith, x.counts, y.counts);
  rises = omega (arith, x.rises, y.rises);
  down = λ faults knows. y.down faults (x.down faults knows);
}

pub same_work : (v : View) → KeepsWork v v
same_work v = record {
  pass = same_pass v;
  place = refl;
  working = refl;
  stage = refl;
  confirmed = omega arith;
  async = refl;
}

pub further_work : (a b c : View) → KeepsWork a b → KeepsWork b c → KeepsWork a c
further_work a b c x y = record {
  pass = further_pass a b c x.pass y.pass;
  place = y.place ∙ x.place;
  working = y.working ∙ x.working;
  stage = y.stage ∙ x.stage;
  confirmed = omega (arith, x.confirmed, y.confirmed);
  async = y.async ∙ x.async;
}

-- where only the down values change, and what the pass has of the write turn
pub downs_keep : (v : View) (hold : Hold) (met set : ℕ)
    → ((faults : ℕ) → KnowsDown faults v → (met ≡ faults) ⊎ (set ≡ faults))
    → KeepsWork v (record v {
      writing = record v.writing { hold = hold; down_met = met; down_set = set };
    })
downs_keep v hold met set knows = record {
  pass = record {
    opening = refl;
    live = refl;
    number = refl;
    spare = refl;
    spare_end = refl;
    joined = refl;
    counts = omega arith;
    rises = omega arith;
    down = λ faults before. (before.0, knows faults before);
  };
  place = refl;
  working = refl;
  stage = refl;
  confirmed = omega arith;
  async = refl;
}

pub hold_keeps : (v : View) (hold : Hold) (w : View) → w ≡ with_hold hold v
    → KeepsWork v w
hold_keeps v hold w is = subst (λ (x : View). KeepsWork v x) (sym is)
    (downs_keep v hold v.writing.down_met v.writing.down_set (λ faults knows. knows.1))

-- a pass that knows of no failed disk knows no count of faults
knows_none : (v : View) → KnowsNoFault v → (faults : ℕ) → KnowsDown faults v → ⊥
knows_none v up faults (some, inl met) = some (sym met ∙ up.met)
knows_none v up faults (some, inr set) = some (sym set ∙ up.set)

-- with the writer, a pass that knows of no failed disk learns whether the writer has failed
pub taken_keeps : (v w : View) (p : Plain) → KnowsNoFault v → w ≡ after_slot_out p v
    → KeepsWork v w
taken_keeps v w p up is = subst (λ (x : View). KeepsWork v x) (sym is)
    (downs_keep v (Out (lent p v)) (max v.writing.down_met (fault_number p.fault))
    v.writing.down_set (λ known knows. absurd (knows_none v up known knows)))

pub taken_met : (v w : View) (p : Plain) → KnowsNoFault v → w ≡ after_slot_out p v
    → w.writing.down_met ≡ fault_number p.fault
taken_met v w p up is =
    let met = ap (λ (x : View). x.writing.down_met) is in omega (arith, met, up.met)

pub taken_up : (v w : View) (p : Plain) → KnowsNoFault v → w ≡ after_slot_out p v
    → p.fault ≡ none → KnowsNoFault w
taken_up v w p up is none_failed = record {
  met = taken_met v w p up is ∙ ap fault_number none_failed;
  set = ap (λ (x : View). x.writing.down_set) is ∙ up.set;
}

-- the down value that is loaded is the one that the pass knows, where it knows one
pub down_met_keeps : (v : View) (met : ℕ) (w : View) → w ≡ view_behind v load_down met none
    → ((faults : ℕ) → KnowsDown faults v → met ≡ faults) → KeepsWork v w
down_met_keeps v met w is known = subst (λ (x : View). KeepsWork v x)
    (sym (is ∙ down_loaded met v))
    (downs_keep v v.writing.hold met v.writing.down_set (λ faults knows. inl (known faults knows)))

-- a pass goes on to copy under its locks
pub copies_stay : (setup : Setup) (locks : List ℕ) (placed : PlacedState) (v w : View)
    → CopiesUnder setup locks placed v → KeepsWork v w → w.writing.hold ≡ Idle
    → CopiesUnder setup locks placed w
copies_stay setup locks placed v w copies work rests = record {
  copy = copies.copy;
  working = work.working ∙ copies.working;
  under = copies.under;
  rest = copies.rest;
  place = work.place ∙ copies.place;
  stage = work.stage ∙ copies.stage;
  hold = rests;
}

-- a pass that was about nothing is so still
pub rested_on : (v w : View) → KeepsWork v w → w.writing.hold ≡ Idle → IsResting v → IsResting w
rested_on v w work idle rests = record {
  place = work.place ∙ rests.place;
  locks = ap (λ (x : Working). x.locks) work.working ∙ rests.locks;
  flight = ap (λ (x : Working). x.flight) work.working ∙ rests.flight;
  stage = work.stage ∙ rests.stage;
  hold = idle;
}

-- ---- no down value is known

-- where it is set then, the pass knows it
pub down_set_keeps : (v w : View) (faults : ℕ) → KnowsNoFault v
    → SetsDownAndRests faults v w → KeepsWork v w
down_set_keeps v w faults up down = subst (λ (x : View). KeepsWork v x) (sym down.new_is)
    (downs_keep v Idle v.writing.down_met faults
    (λ known knows. absurd (knows_none v up known knows)))

-- where none is loaded, the pass knows none
pub none_loaded : (v : View) (met : ℕ) (w : View) → w ≡ view_behind v load_down met none
    → ((faults : ℕ) → KnowsDown faults v → met ≡ faults) → met ≡ 0 → KnowsNoFault w
none_loaded v met w is known zero = subst KnowsNoFault (sym (is ∙ down_loaded met v)) (record {
  met = zero;
  set = dite (ℕ_discrete v.writing.down_set 0) (λ is_zero. is_zero)
      (λ some. sym (known v.writing.down_set (some, inr refl)) ∙ zero);
})

pub still_up : (v : View) (hold : Hold) (w : View) → w ≡ with_hold hold v
    → KnowsNoFault v → KnowsNoFault w
still_up v hold w is up = record {
  met = ap (λ (x : View). x.writing.down_met) is ∙ up.met;
  set = ap (λ (x : View). x.writing.down_set) is ∙ up.set;
}

-- behind a pass that knows of no failed disk, it knew of none before
pub up_before : (v w : View) → KeepsPass v w → KnowsNoFault w → KnowsNoFault v
up_before v w keeps up = record {
  met = dite (ℕ_discrete v.writing.down_met 0) (λ is_zero. is_zero) (λ some. absurd
      (knows_none w up v.writing.down_met (keeps.down v.writing.down_met (some, inl refl))));
  set = dite (ℕ_discrete v.writing.down_set 0) (λ is_zero. is_zero) (λ some. absurd
      (knows_none w up v.writing.down_set (keeps.down v.writing.down_set (some, inr refl))));
}

-- a down value that was met behind steps that set none
pub meets_since : (u v w : View) (faults : ℕ) → v.writing.down_set ≡ u.writing.down_set
    → MeetsDown faults v w → MeetsDown faults u w
meets_since u v w faults same meets = record {
  met = meets.met;
  some = meets.some;
  set_none = meets.set_none ∙ same;
}

-- where both are up, none was set between
pub both_up : (v w : View) → KnowsNoFault v → KnowsNoFault w
    → w.writing.down_set ≡ v.writing.down_set
both_up v w before after = after.set ∙ sym before.set

-- ---- with the writer in hand

pub changes_up : {D : Type 0} → (v w : SeatedPass D) → ChangesHand v w
    → KnowsNoFault (view_of v) → KnowsNoFault (view_of w)
changes_up v w changes up = still_up (view_of v) _ (view_of w) changes.view_is up

pub sets_down : (v w : View) (faults : ℕ) → SetsDownAndRests faults v w
    → SetsDownItself faults w × (w.writing.hold ≡ Idle)
sets_down v w faults down = (
  record {
    set = ap (λ (x : View). x.writing.down_set) down.new_is;
    some = down.some;
  },
  ap (λ (x : View). x.writing.hold) down.new_is,
)
