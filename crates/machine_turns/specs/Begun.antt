-- How a machine begins: the log is opened by its first pass, from which one is split off for each
-- backend, and each backend is at its first line.
use Rattle.std.specs.Prelude.{ℕ, zero, suc, ◌<◌, false, All, List, [], ◌∷◌, ◌++◌, length, map, slice_get}
use mathlib.Core.Option.{some}
use Rattle.segment_disk.specs.Tape.{DiskState}
use Rattle.machine_state.specs.Words.{Opening}
use Rattle.machine_state.specs.Views.{Plain, View}
use Rattle.machine_state.specs.Moves.{after_split, split_off}
use Rattle.machine_state.specs.Opened.{AreFirstWords, IsFirstWriter, IsOpenable, first_view}
use Rattle.machine_turns.specs.Doing.{Ask, Backend, Machine}
use Rattle.machine_turns.specs.Turned.{line_start}
use Rattle.machine_turns.specs.Standing.{IsLine}

-- the first pass's view behind so many splits, and the views that were split off
abbrev pub splitting_view : Opening → ℕ → View
splitting_view opening zero = first_view opening
splitting_view opening (suc n) = after_split (splitting_view opening n)

abbrev pub views_split_off : Opening → ℕ → List View
views_split_off opening zero = []
views_split_off opening (suc n) =
    views_split_off opening n ++ split_off (splitting_view opening n) ∷ []

-- a backend with these lines
abbrev pub first_backend : List Ask → Backend
first_backend asks = record {
  asks = asks;
  answered = 0;
  doing = line_start (slice_get asks 0);
}

-- a machine with these lines, one list for each backend, on a disk that held this at first
abbrev pub first_machine : DiskState → Opening → List ℕ → Plain → List ℕ → List (List Ask) → Machine
first_machine first opening words writer failing lines = record {
  first = first;
  opening = opening;
  state = record {
    words = words;
    home = some writer;
    views = splitting_view opening (length lines) ∷ views_split_off opening (length lines);
  };
  failing = failing;
  backends = map first_backend lines;
  full = false;
}

-- the log may be opened so, has a pass for each backend and one more, and each line can be written
pub record MayBeginRunning (opening : Opening) (words : List ℕ) (writer : Plain)
    (lines : List (List Ask)) : Type 0 where
  pub openable : IsOpenable opening
  pub first_words : AreFirstWords opening words
  pub first_writer : IsFirstWriter opening writer
  pub passes : length lines < (opening.setup).passes
  pub writable : All (All IsLine) lines
