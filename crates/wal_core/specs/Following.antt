-- A turn on plain data follows the machine's: it tells the step that the order names, and leaves
-- what the machine leaves.
use Rattle.std.specs.Prelude.{◌≡◌, ℕ, ◌+◌, true, length, set, slice_index, Option, Some}
use Rattle.machine_state.specs.Words.{down_word}
use Rattle.machine_state.specs.Views.{Copy, Copying, View}
use Rattle.machine_state.specs.Moves.{is_done}
use Rattle.machine_state.specs.Steps.{StepKind, IsLive, word_of_step, value_behind, view_behind}
use Rattle.machine_turns.specs.Doing.{Ask, Machine}
use Rattle.machine_turns.specs.Turned.{can_step, event_named, next_of, outcome}
use Rattle.machine_turns.specs.Standing.{IsRunning, StandsToDo, UpFor}
use Rattle.machine_turns.specs.declared.doing.PlainDoing.{PlainDoing}
use Rattle.machine_turns.specs.declared.script.PlainLine.{PlainLine}
use Rattle.machine_turns.specs.Lanes.{Stepped, stepped}
use Rattle.machine_turns.specs.Left.{Left}
use Rattle.machine_turns.specs.Writer.{WriterState}
use Rattle.wal_core.specs.Lines.{InsertsRecord, IsLineFor}
use Rattle.wal_core.specs.PlainData.{doing_of, event_of, next_of_plain, plain_view}
use Rattle.wal_core.specs.Playing.{HoldsPageFor, IsWriterOf}

-- a backend of a machine that runs is to make its step, which may be made now. `line` is its line
-- under way, `copied` the one whose record it copies, and `w` the writer
pub record StandsPlain (m : Machine) (number : ℕ) (v : View) (ask : Ask) (line : PlainLine)
    (copied : Option PlainLine) (w : WriterState) (d : PlainDoing) : Type 0 where
  pub running : IsRunning m
  pub live : IsLive m.state (number + 1) v
  pub own : v.opening ≡ m.opening
  pub number_is : (v.reserving).number ≡ number + 1
  pub stands : StandsToDo v (doing_of d) ask
  pub up : UpFor (doing_of d) (down_word (m.state).words)
  pub can : can_step m v ask (doing_of d) ≡ true
  pub line_is : IsLineFor ask line
  pub copies : (c : Copy) → (v.working).flight ≡ Copying c
      → (l : PlainLine) × (copied ≡ Some l) × InsertsRecord (c.entry).value l
  pub writer_is : IsWriterOf w.plain (m.state).home (m.state).views
  pub size_is : w.size ≡ ((v.opening).setup).seg_size
  pub failing_is : m.failing ≡ w.failing
  pub unfailed : (m.opening).faults ≡ 0
  pub whole : length w.page ≡ 8192
  pub loaded : HoldsPageFor w.page v d

-- the plain turn at this place
abbrev pub plain_step : Machine → View → PlainLine → Option PlainLine → WriterState → PlainDoing
    → Stepped
plain_step m v line copied w d =
    stepped (v.opening).setup (m.state).words w (plain_view v) line copied d

module _ (m : Machine) (v : View) (ask : Ask) (d : PlainDoing) where
  -- the machine's step, the number that it meets, and the view behind it
  abbrev pub step_made : StepKind
  step_made = event_named m v ask (doing_of d)

  abbrev pub number_met : ℕ
  number_met = slice_index (m.state).words (word_of_step v step_made)

  abbrev pub view_left : View
  view_left = view_behind v step_made number_met (m.state).home

  -- the plain turn tells that step and what comes behind it, and leaves those words and that view
  pub record Follows (left : Left) : Type 0 where
    pub event : (left.made).event ≡ event_of step_made
    pub next : next_of_plain (left.made).next
        ≡ next_of v view_left ask number_met (is_done (outcome m v ask)) (doing_of d)
    pub words : left.words ≡ set (m.state).words (word_of_step v step_made)
        (value_behind v step_made number_met)
    pub view : left.view ≡ plain_view view_left
