-- A core as plain data, and the machine as which it begins.
use Rattle.std.specs.Prelude.{◌≡◌, ◌⊎◌, ℕ, ◌+◌, List, [], ◌∷◌, length, slice_get, Some}
use mathlib.Core.Option.{some}
use Rattle.segment_disk.specs.Tape.{empty_state}
use Rattle.machine_state.specs.declared.setup.Setup.{Setup}
use Rattle.machine_state.specs.Words.{Opening}
use Rattle.wal_page.specs.LogPlace.{new_place}
use Rattle.machine_state.specs.Opened.{AreFirstWords, IsFirstWriter}
use Rattle.machine_state.specs.Views.{HasAt, Lent, Out, Plain, View}
use Rattle.machine_turns.specs.Begun.{first_machine}
use Rattle.machine_turns.specs.Doing.{Ask, Machine}
use Rattle.machine_turns.specs.declared.lane.PlainBackend.{PlainBackend}
use Rattle.machine_turns.specs.declared.script.PlainLine.{PlainLine}
use Rattle.machine_turns.specs.declared.view.PlainFlight.TheVariants.{Landed}
use Rattle.machine_turns.specs.declared.view.PlainHold.TheVariants.{Idle}
use Rattle.machine_turns.specs.declared.view.PlainPlace.TheVariants.{Free}
use Rattle.machine_turns.specs.declared.view.PlainStage.TheVariants.{Away}
use Rattle.machine_turns.specs.declared.view.PlainView.{PlainView}
use Rattle.machine_turns.specs.Lanes.{start_of_line}
use Rattle.machine_turns.specs.Scripts.{flushes_of_lines, rooms_of_lines}
use Rattle.machine_turns.specs.Writer.{KeepsDisk, state_of}
use Rattle.wal_core.specs.declared.machine.Core.{Core}
use Rattle.wal_core.specs.Playing.{CoreState, PlaysMachine}

-- a core's plain data
abbrev pub core_of : Core → CoreState
core_of core = record {
  setup = core.shape;
  words = core.words;
  writer = state_of core.writer;
  lanes = core.lanes.items;
  full = core.full;
}

-- a core's writer keeps to its disk, and its plain data are those of some machine that runs
abbrev pub IsPlayed : Core → Type 0
IsPlayed core = KeepsDisk core.writer × ((m : Machine) × PlaysMachine (core_of core) m)

-- ---- how a core begins

-- nothing was found, on a disk that counted nothing
abbrev pub first_opening : Setup → Opening
first_opening setup = record {
  setup = setup;
  place = new_place setup.seg_size;
  made = 0;
  moment = 0;
  faults = 0;
}

-- a backend with these lines, whose pass has this number, is about nothing
abbrev pub first_plain_view : (size number : ℕ) → PlainView
first_plain_view size number = record {
  number = number;
  place = Free;
  seen = 0;
  last_end = size;
  flight = Landed;
  watching = record { end = 0; visited = 0; bound = 0 };
  stage = Away;
  hold = Idle;
}

abbrev pub first_lane : (size number : ℕ) → List PlainLine → PlainBackend
first_lane size number script = record {
  view = first_plain_view size number;
  script = script;
  copied = 0;
  answered = 0;
  doing = start_of_line (slice_get script 0);
}

-- one for each script, from a pass's number on
abbrev pub first_lanes : (size number : ℕ) → List (List PlainLine) → List PlainBackend
first_lanes size number [] = []
first_lanes size number (script ∷ scripts) =
    first_lane size number script ∷ first_lanes size (number + 1) scripts

-- how many bytes the records of all scripts take up
abbrev pub rooms_of_scripts : List (List PlainLine) → ℕ
rooms_of_scripts [] = 0
rooms_of_scripts (script ∷ scripts) = rooms_of_lines script + rooms_of_scripts scripts

-- how many lines all scripts have
abbrev pub lines_of_scripts : List (List PlainLine) → ℕ
lines_of_scripts [] = 0
lines_of_scripts (script ∷ scripts) = length script + lines_of_scripts scripts

-- and how many of them flush
abbrev pub flushes_of_scripts : List (List PlainLine) → ℕ
flushes_of_scripts [] = 0
flushes_of_scripts (script ∷ scripts) = flushes_of_lines script + flushes_of_scripts scripts

-- the machine as which plain data begin, where their scripts ask for these lines
abbrev pub machine_begun : CoreState → List (List Ask) → Machine
machine_begun core asks = first_machine (core.writer).first (first_opening core.setup)
    (core.words).words (core.writer).plain (core.writer).failing asks

-- the log holds nothing, and nor does the disk
pub record HasBegun (setup : Setup) (failing : List ℕ) (core : CoreState) : Type 0 where
  pub setup_is : core.setup ≡ setup
  pub words : AreFirstWords (first_opening setup) (core.words).words
  pub writer : IsFirstWriter (first_opening setup) (core.writer).plain
  pub first : (core.writer).first ≡ empty_state
  pub calls : ((core.writer).plain).calls ≡ Some []
  pub failing_is : (core.writer).failing ≡ failing

-- ---- the disk

-- this is the machine's writer, at home or in a view's hand
abbrev pub HasWriter : Machine → Plain → Type 0
HasWriter m w = ((m.state).home ≡ some w) ⊎ ((id : ℕ) × (v : View) × (l : Lent)
    × HasAt (m.state).views id v × ((v.writing).hold ≡ Out l) × (l.writer ≡ w))
