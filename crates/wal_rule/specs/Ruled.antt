-- The rule of the table: the machine's invariant of the words, the home slot and the views, and
-- that moments rise. It holds between any two steps of any seats. While a seat has the writer in
-- hand the slot is empty, and its view keeps the writer as plain data: so the rule speaks of the
-- writer wherever it is, also while the seat calls the device.
use Rattle.std.specs.Prelude.{◌≡◌, ℕ, List, [], ◌∷◌, length}
use mathlib.Core.Option.{Option, none, some}
use lib.ListN.{get_elem?}
use Rattle.segment_disk.specs.Tape.{Tape}
use Rattle.machine_state.specs.Words.{Opening}
use Rattle.machine_state.specs.Views.{Plain, Out, Lent, View}
use Rattle.machine_state.specs.Sound.{IsSound}
use Rattle.machine_state.specs.Steps.{slot_out, view_behind}
use Rattle.machine_laws.specs.RisingMoments.{MomentsKeepRising}
use Rattle.wal_rule.specs.declared.writer.LogWriter.{LogWriter}
use Rattle.wal_rule.specs.Slotted.{IsOfLog, first_on, slot_plain}
use Rattle.machine_state.specs.Moves.{after_slot_out, lent}

module _ {D : Type 0} (tape : D → Rattle.std.specs.Prelude.Option Tape) (moment faults : D → ℕ)
  where
    -- the one slot: the writer where it is at home
    abbrev pub home_of : List (Option (LogWriter D)) → Option Plain
    home_of [] = none
    home_of (none ∷ homes) = none
    home_of (some w ∷ homes) = some (slot_plain tape moment w)

    -- a seat with the writer in hand: in its slot as it keeps it in its view
    pub record HasInHand (began : Rattle.std.specs.Prelude.Option Tape) (opening : Opening)
        (me : View × List (ℕ × LogWriter D)) (l : Lent) (w : LogWriter D) : Type 0 where
      pub hold : (me.0).writing.hold ≡ Out l
      pub slot : me.1 ≡ (0, w) ∷ []
      pub kept : l.writer ≡ slot_plain tape moment w
      pub of_log : IsOfLog tape faults began opening w

    -- the order, the writer, the memory and what else is existential stand in `IsSound`
    pub record IsRuled (opening : Opening) (began : Rattle.std.specs.Prelude.Option Tape)
        (words : List ℕ) (homes : List (Option (LogWriter D))) (views : List View)
        : Type 0 where
      pub one : length homes ≡ 1
      pub of_log : (w : LogWriter D) → get_elem? homes 0 ≡ some (some w)
          → IsOfLog tape faults began opening w
      pub sound : IsSound (first_on began) opening words (home_of homes) views
      pub rises : MomentsKeepRising opening words (home_of homes) views sound

    -- a seat took this writer of its log out of the slot, behind this number met
    pub record IsOutOf (began : Rattle.std.specs.Prelude.Option Tape) (opening : Opening)
        (met : ℕ) (w : LogWriter D) (old new : View × List (ℕ × LogWriter D)) : Type 0 where
      pub of_log : IsOfLog tape faults began opening w
      pub me_is : new
          ≡ (view_behind old.0 slot_out met (some (slot_plain tape moment w)), (0, w) ∷ old.1)

    -- a seat took the turn to write and the writer: nothing else has changed for it
    pub record HasTaken (began : Rattle.std.specs.Prelude.Option Tape) (opening : Opening)
        (old new : View × List (ℕ × LogWriter D)) : Type 0 where
      pub writer : LogWriter D
      pub in_hand : HasInHand began opening new (lent (slot_plain tape moment writer) old.0)
          writer
      pub view_is : new.0 ≡ after_slot_out (slot_plain tape moment writer) old.0
