-- The invariant behind a step of one kind by the pass with a view.
use Rattle.std.specs.Prelude.{ℕ, List, set, slice_index}
use mathlib.Core.Option.{Option}
use Rattle.segment_disk.specs.Tape.{DiskState}
use Rattle.machine_state.specs.Views.{Plain, View}
use Rattle.machine_state.specs.Steps.{StepKind, word_of_step, value_behind, home_behind, view_behind}
use Rattle.machine_state.specs.Sound.{IsSound}

-- the word that the step loads, stores or exchanges holds this number before
abbrev pub number_met : List ℕ → View → StepKind → ℕ
number_met words v e = slice_index words (word_of_step v e)

abbrev pub KeepsSound : DiskState → List ℕ → Option Plain → List View → ℕ → View → StepKind → Type 0
KeepsSound first words home views id v e =
    IsSound first v.opening (set words (word_of_step v e) (value_behind v e (number_met words v e)))
    (home_behind v e home) (set views id (view_behind v e (number_met words v e) home))
