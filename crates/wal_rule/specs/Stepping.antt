-- A seat that may step, and what a step leaves of it. A caller has a live seat of its table
-- (`IsSeatOf`) and shows that the seat's view lets it make a step (`MayStep`). Behind the step it
-- has the view that the machine leaves (`SeatSteps`) and, where the step loads or exchanges, that
-- the word held the number met (`Meets`). No step of another seat changes a view, so what a view
-- lets its seat do stays so while others step.
use Rattle.std.specs.Prelude.{◌≡◌, ℕ, List, slice_index, true}
use mathlib.Core.Option.{Option}
use Rattle.atomic_table.specs.Seated.{TableId}
use Rattle.atomic_table.specs.declared.shared.Seat.{Seat}
use Rattle.segment_disk.specs.Tape.{DiskState}
use Rattle.machine_state.specs.Words.{Opening}
use Rattle.machine_state.specs.Views.{HasAt, Plain, View}
use Rattle.machine_state.specs.Sound.{IsSound}
use Rattle.machine_state.specs.Steps.{StepKind, create, slot_in, slot_out, sync, word_of_step, write}

-- there is a state that the rule allows, in which a pass has this view: so all that the machine's
-- invariant says of a view alone is known of it
pub record Stands (v : View) : Type 0 where
  pub first : DiskState
  pub words : List ℕ
  pub home : Option Plain
  pub views : List View
  pub id : ℕ
  pub sound : IsSound first v.opening words home views
  pub here : HasAt views id v

-- a live seat of a table, of the log that was opened so
pub record IsSeatOf {S : Type 0} (table : TableId) (opening : Opening) (seat : Seat S View)
    : Type 0 where
  pub of_table : seat.table_id ≡ table
  pub own : ((seat.me).0).opening ≡ opening
  pub live : (((seat.me).0).reserving).live ≡ true
  pub stands : ∥ Stands (seat.me).0 ∥₁

-- a step that moves no writer and calls no device
abbrev pub IsQuiet : StepKind → Type 0
IsQuiet slot_out = ⊥
IsQuiet slot_in = ⊥
IsQuiet (create segment outcome) = ⊥
IsQuiet (write segment page upto bytes outcome) = ⊥
IsQuiet (sync segment outcome) = ⊥
IsQuiet other = Unit {0}

-- a pass with this view met this number at a step of a kind: in some state that the rule allows the
-- step's word held it
pub record Meets (v : View) (e : StepKind) (met : ℕ) : Type 0 where
  pub before : Stands v
  pub met_is : met ≡ slice_index before.words (word_of_step v e)
