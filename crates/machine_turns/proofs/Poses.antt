-- A view with its parts set, and what a step's event leads to at one place.
use Rattle.std.proofs.Common.{◌≡◌, ℕ, Bool, true, false, List, slice_index, refl, sym, subst}
use Rattle.machine_state.specs.Views.{Place, Flight, Stage, Hold, View}
use Rattle.machine_state.specs.Steps.{MayStep, word_of_step, view_behind}
use Rattle.machine_state.specs.Moves.{is_done}
use Rattle.machine_turns.specs.Doing.{Ask, Doing, Machine}
use Rattle.machine_turns.specs.Turned.{Next, goes_on, answers, event_named, next_of, outcome}
use Rattle.machine_turns.specs.Standing.{IsPosed, MayBegin, StandsToDo}

pub bool_cases : (P : Bool → Type 0) (b : Bool) → (b ≡ true → P true) → (b ≡ false → P false)
    → P b
bool_cases P b hit miss = of_value b refl
  where
    of_value : (c : Bool) → b ≡ c → P b
    of_value true is = subst P (sym is) (hit is)
    of_value false is = subst P (sym is) (miss is)

abbrev pub posed : Place → List ℕ → Flight → Stage → Hold → View → View
posed place locks flight stage hold v = record v {
  reserving = record v.reserving { place = place };
  working = record { locks = locks; flight = flight };
  mapping = record v.mapping { stage = stage };
  writing = record v.writing { hold = hold };
}

pub of_posed : (P : View → Type 0) (place : Place) (locks : List ℕ) (flight : Flight)
    (stage : Stage) (hold : Hold) (v : View) → IsPosed place locks flight stage hold v
    → P (posed place locks flight stage hold v) → P v
of_posed P place locks flight stage hold v e holds = subst
    (λ (y : Place × List ℕ × Flight × Stage × Hold). P (posed y.0 y.1 y.2 y.3 y.4 v))
    (λ i. (
      sym e.place_is i,
      sym e.locks_are i,
      sym e.flight_is i,
      sym e.stage_is i,
      sym e.hold_is i,
    )) holds

-- how a view stands behind its step
abbrev pub StandsNext : Next → Ask → View → Type 0
StandsNext (goes_on doing) ask w = StandsToDo w doing ask
StandsNext (answers full) ask w = MayBegin w

module _ (m : Machine) (ask : Ask) where
  -- the step that the order names at a place may be made, and the view behind it stands
  abbrev pub Goes : Doing → View → Type 0
  Goes doing v =
      let e = event_named m v ask doing in
      let met = slice_index (m.state).words (word_of_step v e) in
      let w = view_behind v e met (m.state).home in
      MayStep v e × StandsNext (next_of v w ask met (is_done (outcome m v ask)) doing) ask w
