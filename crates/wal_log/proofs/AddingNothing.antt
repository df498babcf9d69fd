-- Steps with the turn to write, which keep a pass's work and add nothing to its log.
use Rattle.std.proofs.Common.{◌≡◌, ℕ, sym, ap, ◌∙◌, subst}
use Rattle.machine_state.specs.Moves.{after_slot_out, with_hold}
use Rattle.machine_state.specs.Views.{Hold, Plain, View}
use Rattle.wal_rule.specs.declared.seated.SeatedPass.{SeatedPass}
use Rattle.wal_rule.specs.SeatedPasses.{view_of}
use Rattle.word_ring.specs.InHand.{ChangesHand}
use Rattle.wal_log.specs.Downs.{KnowsNoFault}
use Rattle.wal_log.specs.Hands.{SetsDownAndRests}
use Rattle.wal_log.specs.PassLogs.{log_of_pass}
use Rattle.wal_log.specs.Standing.{AddsNothing, KeepsWork, WorksOn}
use Rattle.wal_log.proofs.Keeping.{down_set_keeps, further_work, hold_keeps, same_work, taken_keeps}

pub works_on : {D : Type 0} → (a b c : SeatedPass D) → WorksOn a b → WorksOn b c → WorksOn a c
works_on a b c x y = record {
  same_table = y.same_table ∙ x.same_table;
  work = further_work (view_of a) (view_of b) (view_of c) x.work y.work;
}

pub adds_on : {D : Type 0} → (a b c : SeatedPass D) → AddsNothing a b → AddsNothing b c
    → AddsNothing a c
adds_on a b c x y = record {
  works = works_on a b c x.works y.works;
  log = y.log ∙ x.log;
  flushed = y.flushed ∙ x.flushed;
}

-- what a pass has of the turn to write is another
pub held_else : {D : Type 0} → (old new : SeatedPass D) (hold : Hold) → new.table ≡ old.table
    → view_of new ≡ with_hold hold (view_of old) → AddsNothing old new
held_else old new hold same is = record {
  works = record { same_table = same; work = hold_keeps (view_of old) hold (view_of new) is };
  log = ap (λ (v : View). log_of_pass v) is;
  flushed = ap (λ (v : View). v.writing.flushed) is;
}

-- the writer is taken in hand
pub taken_out : {D : Type 0} → (old new : SeatedPass D) (p : Plain) → KnowsNoFault (view_of old)
    → new.table ≡ old.table → view_of new ≡ after_slot_out p (view_of old) → AddsNothing old new
taken_out old new p up same is = record {
  works = record { same_table = same; work = taken_keeps (view_of old) (view_of new) p up is };
  log = ap (λ (v : View). log_of_pass v) is;
  flushed = ap (λ (v : View). v.writing.flushed) is;
}

-- nothing is
pub as_before : {D : Type 0} → (old new : SeatedPass D) → new.table ≡ old.table
    → view_of new ≡ view_of old → AddsNothing old new
as_before old new same is = record {
  works = record {
    same_table = same;
    work = subst (λ (v : View). KeepsWork (view_of old) v) (sym is) (same_work (view_of old));
  };
  log = ap (λ (v : View). log_of_pass v) is;
  flushed = ap (λ (v : View). v.writing.flushed) is;
}

-- the writer in hand has changed
pub hand_changed : {D : Type 0} → (old new : SeatedPass D) → ChangesHand old new
    → AddsNothing old new
hand_changed old new changes = held_else old new _ changes.same_table changes.view_is

-- the down value is set, and writer and turn are given back
pub went_down : {D : Type 0} → (old mid new : SeatedPass D) (faults : ℕ) → AddsNothing old mid
    → KnowsNoFault (view_of mid) → new.table ≡ mid.table
    → SetsDownAndRests faults (view_of mid) (view_of new) → AddsNothing old new
went_down old mid new faults before up same down = adds_on old mid new before (record {
  works = record {
    same_table = same;
    work = down_set_keeps (view_of mid) (view_of new) faults up down;
  };
  log = ap (λ (v : View). log_of_pass v) down.new_is;
  flushed = ap (λ (v : View). v.writing.flushed) down.new_is;
})
