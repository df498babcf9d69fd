-- The writer in hand: it is taken, stays so behind steps that do not move it, and a fault that it
-- has met is not 0.
use Rattle.std.proofs.Common.{◌≡◌, ◌≢◌, inl, inr, ℕ, List, [], ◌∷◌, refl, sym, ap, ◌∙◌, arith}
use Rattle.std.proofs.Math.Logic.{∥∥₁_elim}
use mathlib.Core.Option.{none, some}
use Rattle.segment_disk.specs.Cause.{Rose}
use Rattle.segment_disk.specs.Tape.{Tape}
use Rattle.machine_state.specs.Steps.{set_down, slot_in, store_written, MayStep}
use Rattle.machine_state.specs.Views.{Plain, Out, Hold, Lent, View}
use Rattle.wal_rule.specs.declared.seated.SeatedPass.{SeatedPass}
use Rattle.wal_rule.specs.declared.writer.LogWriter.{LogWriter}
use Rattle.wal_rule.specs.Ruled.{IsOutOf}
use Rattle.machine_state.specs.Moves.{after_slot_out, lent}
use Rattle.wal_rule.specs.Slotted.{slot_plain}
use Rattle.wal_rule.specs.Stepping.{Stands}
use Rattle.wal_rule.specs.SeatedPasses.{StaysSeated, began_of, hand_of, opening_of, view_of}
use Rattle.word_ring.specs.InHand.{HasHand, lent_in, writer_in}
use Rattle.word_ring.proofs.CountBounds.{own_writer}
use Rattle.word_ring.proofs.HandLaws.{HasLent, hand_there, hold_is}
use Rattle.wal_log.specs.Downs.{KnowsNoFault}

-- ---- in the view

module _ (v : View) (has : HasLent v) where
  pub may_store : MayStep v store_written
  may_store = ((lent_in v.writing.hold), hold_is v has, tt)

  -- a writer that has failed may go back once the down value is set, or was met
  pub may_put_down : v.writing.down_set ≢ 0 → MayStep v slot_in
  may_put_down set = ((lent_in v.writing.hold), hold_is v has, inr (inr set))

  pub may_put_met : v.writing.down_met ≢ 0 → MayStep v slot_in
  may_put_met met = ((lent_in v.writing.hold), hold_is v has, inr (inl met))

  -- else it may where what it has written is stored
  pub may_put_stored : (writer_in v).fault ≡ none
      → (lent_in v.writing.hold).stored ≡ (writer_in v).written → MayStep v slot_in
  may_put_stored up stored = ((lent_in v.writing.hold), hold_is v has, inl (up, stored))

  module _ (faults : ℕ) (failed : (writer_in v).fault ≡ some faults) where
    pub may_set_down : KnowsNoFault v → MayStep v set_down
    may_set_down up =
        ((lent_in v.writing.hold), hold_is v has, (faults, failed, up.met, up.set))

    above_none : (old new : ℕ) → Rose old new → new ≢ 0
    above_none old new (inl rises) zero = omega (arith, rises, zero)
    above_none old new (inr last) zero = omega (arith, last, zero)

    -- it is a count of faults above the one at the opening
    pub fault_is_some : ∥ Stands v ∥₁ → faults ≢ 0
    fault_is_some stood is = ∥∥₁_elim stood (λ p q. absurd p) (λ (stands : Stands v).
        above_none (v.opening).faults faults
        (((stands.sound).durable).fault_rose faults
        (sym (ap (λ (p : Plain). p.fault) (own_writer v stands has)) ∙ failed)) is)

-- ---- in the pass

module _ {D : Type 0} (tape : D → Rattle.std.specs.Prelude.Option Tape) (moment faults : D → ℕ)
  where
    -- a step that leaves the slot and the writer
    pub hand_stays : (old new : SeatedPass D) → HasHand tape moment faults old
        → StaysSeated old new → (l : Lent) → (view_of new).writing.hold ≡ Out l
        → l.writer ≡ writer_in (view_of old) → HasHand tape moment faults new
    hand_stays old new has seats l hold same = hand_there tape moment faults old new
        seats.same_table (
          l,
          has.1,
          record {
            hold = hold;
            slot = seats.same_hand ∙ (has.2).slot;
            kept = same ∙ ap (λ (h : Hold). (lent_in h).writer) (has.2).hold ∙ (has.2).kept;
            of_log = (has.2).of_log;
          },
        )

    module _ (old new : SeatedPass D) (empty : hand_of old ≡ []) (met : ℕ) (w : LogWriter D)
        (out : IsOutOf tape moment faults (began_of tape old) (opening_of old) met w
        (old.seat).me (new.seat).me) where
      -- a view behind the turn's, with the writer
      pub view_taken : view_of new
          ≡ after_slot_out (slot_plain tape moment w) (view_of old)
      view_taken = ap (λ (m : View × List (ℕ × LogWriter D)). m.0) out.me_is

      pub hand_taken : new.table ≡ old.table → HasHand tape moment faults new
      hand_taken same = hand_there tape moment faults old new same (
        lent (slot_plain tape moment w) (view_of old),
        w,
        record {
          hold = ap (λ (v : View). v.writing.hold) view_taken;
          slot = ap (λ (m : View × List (ℕ × LogWriter D)). m.1) out.me_is
              ∙ ap (λ (s : List (ℕ × LogWriter D)). (0, w) ∷ s) empty;
          kept = refl;
          of_log = out.of_log;
        },
      )
