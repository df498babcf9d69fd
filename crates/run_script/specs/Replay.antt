-- What the script of a replay means: lines for each of several backends, and a schedule.
use Rattle.std.specs.Prelude.{ℕ, ◌+◌, Bool, true, false, ◌&&◌, ◌||◌, List, [], ◌∷◌, ◌++◌, length, Option, Some, None, Result, Ok, Err, codes, ◌==◌, nat_lt, if◌then◌else◌}
use Rattle.run_script.specs.declared.item.Item.{Item}
use Rattle.run_script.specs.ScheduleMeaning.{after_lines}
use Rattle.run_script.specs.declared.line.Refusal.{Refusal}
use Rattle.run_script.specs.declared.line.ScriptFault.{ScriptFault}
use Rattle.run_script.specs.declared.line.ScriptFault.TheVariants as faults
use Rattle.run_script.specs.Asked.{Asked, AskedLine, Insert, Commit, Flush, CommitAsync, WriteBehind, Switch}
use Rattle.run_script.specs.Text.{is_text, lines_of, fields_of}
use Rattle.run_script.specs.Meaning.{LineMeaning, passes, asks, refuses, line_with, within_limit}

-- what one line means: what one of a backend's lines does, that the next backend begins if no field
-- stands behind the `B`, or that the schedule begins
pub data ScriptLine : Type 0 where
  of_backend : LineMeaning → ScriptLine
  begins : (is_alone : Bool) → ScriptLine
  ends : ScriptLine

-- a line with no further field
abbrev pub alone : ScriptLine → List (List ℕ) → ScriptLine
alone line [] = line
alone line (field ∷ fields) = of_backend (refuses faults.Count)

-- whether a line's first field is a letter of runs alone: a replay knows no commit that is answered
-- ahead, no flush behind, and no segment switch
abbrev pub is_of_runs : List ℕ → Bool
is_of_runs word =
    is_text word (codes "A") || is_text word (codes "L") || is_text word (codes "W")

-- a line of a backend by its first field and those behind it; where the script takes a schedule the
-- letters of runs alone are none
abbrev pub backend_line_with : (takes_schedule : Bool) → List ℕ → List (List ℕ) → LineMeaning
backend_line_with takes_schedule word fields =
    if takes_schedule && is_of_runs word then refuses faults.Word else line_with (word ∷ fields)

-- a line by its first field; `S` is a letter where the script takes a schedule
abbrev pub script_line_with : (takes_schedule : Bool) → List (List ℕ) → ScriptLine
script_line_with takes_schedule [] = of_backend (refuses faults.Word)
script_line_with takes_schedule (word ∷ fields) =
    if is_text word (codes "B") then begins (length fields == 0)
    else (if takes_schedule && is_text word (codes "S") then alone ends fields
    else of_backend (backend_line_with takes_schedule word fields))

-- an empty line and one that begins with `#` are passed over
abbrev pub script_line_of : (takes_schedule : Bool) → List ℕ → ScriptLine
script_line_of takes_schedule [] = of_backend passes
script_line_of takes_schedule (c ∷ cs) =
    if c == 35 then of_backend passes else script_line_with takes_schedule (fields_of (c ∷ cs))

-- the number of a line `S`, and the lines behind it
pub record ScheduleLines : Type 0 where
  pub number : ℕ
  pub texts : List (List ℕ)

-- the lines of each backend, and what a line `S` ends them with
pub record BackendsMeaning : Type 0 where
  pub backends : List (List AskedLine)
  pub schedule : Option ScheduleLines

-- how many backends there may be
abbrev pub most_backends : ℕ
most_backends = 64

-- why a `B` begins no backend: by the number of backends first, and then by its fields
abbrev pub begin_fault : (has_room is_alone : Bool) → Option ScriptFault
begin_fault false is_alone = Some faults.Backends
begin_fault true false = Some faults.Count
begin_fault true true = None

-- a meaning, unless the line of this number is refused
abbrev pub unless_fault : ℕ → Option ScriptFault → Result BackendsMeaning Refusal
    → Result BackendsMeaning Refusal
unless_fault number None meaning = meaning
unless_fault number (Some fault) meaning = Err (record { line = number; fault = fault })

-- a line by its number, behind the backends before its own and its own's lines before it: `others`
-- is what the lines behind it, `texts`, mean
abbrev pub backends_with : ℕ → List (List AskedLine) → List AskedLine → ScriptLine → List (List ℕ)
    → (List (List AskedLine) → List AskedLine → Result BackendsMeaning Refusal)
    → Result BackendsMeaning Refusal
backends_with number before lines (of_backend passes) texts others = others before lines
backends_with number before lines (of_backend (asks asked)) texts others =
    others before (lines ++ (record { number = number; asked = asked }) ∷ [])
backends_with number before lines (of_backend (refuses fault)) texts others =
    Err (record { line = number; fault = fault })
backends_with number before lines (begins is_alone) texts others =
    unless_fault number (begin_fault (nat_lt (length before + 1) most_backends) is_alone)
    (others (before ++ lines ∷ []) [])
backends_with number before lines ends texts others =
    Ok (record {
      backends = before ++ lines ∷ [];
      schedule = Some (record { number = number; texts = texts });
    })

-- lines from a number on, behind such backends and lines, up to a line `S`, if the script takes a
-- schedule, or the first that is refused
abbrev pub backends_from : (takes_schedule : Bool) → ℕ → List (List AskedLine) → List AskedLine
    → List (List ℕ) → Result BackendsMeaning Refusal
backends_from takes_schedule number before lines [] =
    Ok (record { backends = before ++ lines ∷ []; schedule = None })
backends_from takes_schedule number before lines (text ∷ texts) =
    backends_with number before lines (script_line_of takes_schedule text) texts
    (λ so_far latest. backends_from takes_schedule (number + 1) so_far latest texts)

-- what a replay does: the lines of each backend, and who has the next turns
pub record ReplayMeaning : Type 0 where
  pub backends : List (List AskedLine)
  pub schedule : List Item

-- the items of a schedule; one that is refused is so at its line
abbrev pub items_or_fault : Result (List Item) ℕ → Result (List Item) Refusal
items_or_fault (Ok items) = Ok items
items_or_fault (Err line) = Err (record { line = line; fault = faults.Schedule })

-- the schedule for so many backends behind a line `S`; without one it is empty
abbrev pub schedule_with : ℕ → Option ScheduleLines → Result (List Item) Refusal
schedule_with backends None = Ok []
schedule_with backends (Some lines) =
    items_or_fault (after_lines backends (lines.number + 1) [] lines.texts)

abbrev pub with_schedule : List (List AskedLine) → Result (List Item) Refusal
    → Result ReplayMeaning Refusal
with_schedule backends (Ok items) = Ok (record { backends = backends; schedule = items })
with_schedule backends (Err refusal) = Err refusal

abbrev pub replay_with : Result BackendsMeaning Refusal → Result ReplayMeaning Refusal
replay_with (Ok m) = with_schedule m.backends (schedule_with (length m.backends) m.schedule)
replay_with (Err refusal) = Err refusal

-- what a line of a replay may ask for: nothing of what runs alone know
abbrev pub IsOfReplay : Asked → Type 0
IsOfReplay (Insert value) = Unit {0}
IsOfReplay (Commit value) = Unit {0}
IsOfReplay Flush = Unit {0}
IsOfReplay (CommitAsync value) = ⊥
IsOfReplay WriteBehind = ⊥
IsOfReplay Switch = ⊥

-- the meaning of a replay's script, or its first refusal
abbrev pub replay_meaning : List ℕ → Result ReplayMeaning Refusal
replay_meaning script =
    within_limit script (replay_with (backends_from true 1 [] [] (lines_of script)))
