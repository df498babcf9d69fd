-- What a turn leaves of a backend's view and of the words, beside what it tells.
use Rattle.std.specs.Prelude.{◌≡◌, ℕ, ◌+◌, ◌*◌, ◌/◌, false, List}
use Rattle.machine_state.specs.Numbers.{WordsState}
use Rattle.machine_turns.specs.declared.event.Event.{Event}
use Rattle.machine_turns.specs.declared.doing.PlainDoing.{PlainDoing}
use Rattle.machine_turns.specs.declared.doing.Made.{Made}
use Rattle.machine_turns.specs.declared.doing.PlainNext.TheVariants.{GoesOn, Answers}
use Rattle.machine_turns.specs.declared.view.PlainFlight.{PlainFlight}
use Rattle.machine_turns.specs.declared.view.PlainFlight.TheVariants.{Landed, Copying}
use Rattle.machine_turns.specs.declared.view.PlainPlace.{PlainPlace}
use Rattle.machine_turns.specs.declared.view.PlainView.{PlainView}
use Rattle.machine_turns.specs.declared.view.PlainStage.{PlainStage}

-- what a turn tells, with what comes next, and the view and the words behind it
pub record Left : Type 0 where
  pub made : Made
  pub view : PlainView
  pub words : List ℕ

-- a step, a view and words are what is left
pub record Leaves (made : Made) (view : PlainView) (old new : WordsState) (left : Left) : Type 0
  where
    pub made_is : made ≡ left.made
    pub view_is : view ≡ left.view
    pub words_are : new ≡ record old { words = left.words }

-- a step with another one behind it, and one with which the line is answered
abbrev pub left_going_on : Event → PlainView → List ℕ → PlainDoing → Left
left_going_on event view words doing = record {
  made = record { event = event; next = GoesOn doing };
  view = view;
  words = words;
}

abbrev pub left_answered : Event → PlainView → List ℕ → Left
left_answered event view words = record {
  made = record { event = event; next = Answers false };
  view = view;
  words = words;
}

-- a view with one part changed
abbrev pub at_place : PlainPlace → PlainView → PlainView
at_place place view = record view { place = place }

abbrev pub at_stage : PlainStage → PlainView → PlainView
at_stage stage view = record view { stage = stage }

-- the address of the next word to copy, and where its page ends
abbrev pub next_in : PlainFlight → ℕ
next_in Landed = 0
next_in (Copying start prev next end) = next

abbrev pub page_end_in : PlainFlight → ℕ
page_end_in flight = (next_in flight / 8192 + 1) * 8192
