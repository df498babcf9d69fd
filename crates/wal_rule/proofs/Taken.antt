-- A seat that takes the turn to write and then the writer has the writer in hand.
use Rattle.std.proofs.Common.{◌≡◌, ℕ, List, [], ◌∷◌, refl, ap, ◌∙◌, subst}
use mathlib.Core.Option.{none}
use Rattle.segment_disk.specs.Tape.{Tape}
use Rattle.machine_state.specs.Words.{Opening}
use Rattle.machine_state.specs.Views.{Plain, View}
use Rattle.machine_state.specs.Steps.{take_write_turn, view_behind}
use Rattle.wal_rule.specs.declared.writer.LogWriter.{LogWriter}
use Rattle.machine_state.specs.Moves.{after_slot_out}
use Rattle.wal_rule.specs.Slotted.{slot_plain}
use Rattle.wal_rule.specs.Ruled.{HasTaken, IsOutOf}

module _ {D : Type 0} (tape : D → Rattle.std.specs.Prelude.Option Tape) (moment faults : D → ℕ)
    (opening : Opening) (began : Rattle.std.specs.Prelude.Option Tape) where
  abbrev Me : Type 0
  Me = View × List (ℕ × LogWriter D)

  out_taken : (old new : Me) (met : ℕ) (w : LogWriter D)
      → IsOutOf tape moment faults began opening met w (view_behind old.0 take_write_turn 0 none, []) new
      → HasTaken tape moment faults began opening old new
  out_taken old new met w out =
      let p : Plain = slot_plain tape moment w in
      let is : new ≡ (after_slot_out p old.0, (0, w) ∷ []) =
      out.me_is in
      record {
        writer = w;
        in_hand = record {
          hold = ap (λ (m : Me). (m.0).writing.hold) is;
          slot = ap (λ (m : Me). m.1) is;
          kept = refl;
          of_log = out.of_log;
        };
        view_is = ap (λ (m : Me). m.0) is;
      }

  pub taken : (old mid new : Me) → old.1 ≡ [] → (found : ℕ) → found ≡ 0
      → mid ≡ (view_behind old.0 take_write_turn found none, old.1) → (met : ℕ) (w : LogWriter D)
      → IsOutOf tape moment faults began opening met w mid new
      → HasTaken tape moment faults began opening old new
  taken old mid new empty found free is met w out = out_taken old new met w
      (subst (λ (m : Me). IsOutOf tape moment faults began opening met w m new)
      (is ∙ ap (λ (n : ℕ). (view_behind old.0 take_write_turn n none, old.1)) free
      ∙ ap (λ (c : List (ℕ × LogWriter D)). (view_behind old.0 take_write_turn 0 none, c)) empty)
      out)
