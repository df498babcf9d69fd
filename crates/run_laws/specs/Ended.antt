-- The end of a run of several backends: the log was closed by its first pass, which had taken in
-- those that played the lines.
use Rattle.std.specs.Prelude.{◌≡◌, ℕ, ◌+◌, ◌≤◌, All, List, [], ◌∷◌, map}
use mathlib.Core.Option.{some}
use Rattle.segment_disk.specs.Cause.{Rose}
use Rattle.segment_disk.specs.Tape.{DiskState}
use Rattle.wal_page.specs.Order.{Entry}
use Rattle.run_script.specs.Asked.{AskedLine}
use Rattle.run_laws.specs.declared.told.Told.{Told}
use Rattle.run_laws.specs.Told.{Logged}
use Rattle.machine_state.specs.Words.{Opening, found_position, log_limit}
use Rattle.machine_state.specs.Views.{HasAt, Plain, View}
use Rattle.machine_state.specs.Moves.{joined_of}
use Rattle.machine_state.specs.Sound.{IsSound}
use Rattle.machine_laws.specs.ClosedLogs.{IsClosed}
use Rattle.run_laws.specs.Played.{KnowsFault, PassState, PlaysAllLines, pass_state_of}

-- a log was closed with this order, in a sound state in which this was the last pass, with its
-- writer at home, on a disk that held this at first
pub record IsClosedLog (opening : Opening) (order : List Entry) (v : View) : Type 0 where
  pub first : DiskState
  pub words : List ℕ
  pub writer : Plain
  pub views : List View
  pub id : ℕ
  pub sound : IsSound first opening words (some writer) views
  pub order_is : sound.order ≡ order
  pub here : HasAt views id v
  pub closed : IsClosed first opening order words (some writer) writer views id v

-- each pass, from this number on, played its backend's lines
abbrev pub PlayedAll : ℕ → ℕ → ℕ → List (List AskedLine) → List (List Told) → List View → Type 0
PlayedAll size limit pass [] [] [] = Unit {0}
PlayedAll size limit pass [] [] (w ∷ views) = ⊥
PlayedAll size limit pass [] (told ∷ lists) views = ⊥
PlayedAll size limit pass (lines ∷ script) [] views = ⊥
PlayedAll size limit pass (lines ∷ script) (told ∷ lists) [] = ⊥
PlayedAll size limit pass (lines ∷ script) (told ∷ lists) (w ∷ views) =
    ((w.reserving).number ≡ pass)
    × PlaysAllLines size limit pass lines told (pass_state_of w)
    × PlayedAll size limit (pass + 1) script lists views

-- a pass knows this count of faults, or a greater one
abbrev pub KnowsAtLeast : ℕ → PassState → Type 0
KnowsAtLeast faults s = (more : ℕ) × (faults ≤ more) × KnowsFault more s

-- what a pass knows of faults came since the opening; the pass that took it in knows no less, and
-- set no fault itself then, and it has seen no less reserved
pub record IsKnownTo (opening : Opening) (v w : View) : Type 0 where
  pub rose : (faults : ℕ) → KnowsFault faults (pass_state_of w) → Rose opening.faults faults
  pub kept : (faults : ℕ) → KnowsFault faults (pass_state_of w)
      → KnowsAtLeast faults (pass_state_of v)
  pub first_set_none : (faults : ℕ) → KnowsFault faults (pass_state_of w)
      → (v.writing).down_set ≡ 0
  pub seen : (w.reserving).seen ≤ (v.reserving).seen

-- the first pass reserved nothing, and took in these, which played the script, numbered from 1
pub record HasTakenIn (opening : Opening) (v : View) (script : List (List AskedLine))
    (lists : List (List Told)) : Type 0 where
  pub others : List View
  pub number : (v.reserving).number ≡ 0
  pub none : (v.reserving).entries ≡ []
  pub joined : (v.reserving).joined ≡ map joined_of others
  pub known : All (IsKnownTo opening v) others
  pub played : PlayedAll (opening.setup).seg_size (log_limit opening.setup) 1 script lists
      others

-- the log that lines are told of, with its order since the opening, where its disk's count of
-- faults was `last` at the end
abbrev pub logged_at_end : Opening → (order : List Entry) → ℕ → Logged
logged_at_end opening order last = record {
  size = (opening.setup).seg_size;
  limit = log_limit opening.setup;
  start = found_position opening;
  order = order;
  faults_at_open = opening.faults;
  last = last;
}
