-- What the script of a run means: lines for each of several backends, and those of a writer behind
-- them, where the run has one.
use Rattle.std.specs.Prelude.{◌≢◌, ℕ, ◌+◌, false, List, [], ◌∷◌, ◌++◌, length, map, Option, Some, None, Result, Ok, Err, codes, count_by, ◌==◌, nat_lt, if◌then◌else◌}
use Rattle.std.specs.List.{range_with_len, slice_get}
use Rattle.run_script.specs.declared.line.Refusal.{Refusal}
use Rattle.run_script.specs.declared.line.ScriptFault.TheVariants as faults
use Rattle.run_script.specs.Asked.{AskedLine, WriteBehind}
use Rattle.run_script.specs.Text.{fields_of, lines_of}
use Rattle.run_script.specs.Meaning.{within_limit}
use Rattle.run_script.specs.Replay.{BackendsMeaning, backends_from, most_backends}

-- the lines of each backend alone
abbrev pub lines_alone : Result BackendsMeaning Refusal → Result (List (List AskedLine)) Refusal
lines_alone (Ok m) = Ok m.backends
lines_alone (Err refusal) = Err refusal

-- the meaning of a run's script, or its first refusal; it takes no schedule
abbrev pub backends_meaning : List ℕ → Result (List (List AskedLine)) Refusal
backends_meaning script =
    within_limit script (lines_alone (backends_from false 1 [] [] (lines_of script)))

-- the lines of a writer: each flushes behind
abbrev pub writer_line : (index : ℕ) → AskedLine
writer_line index = record { number = index + 1; asked = WriteBehind }

abbrev pub writer_lines : (count : ℕ) → List AskedLine
writer_lines count = map writer_line (range_with_len 0 count)

-- the number of a script's last line
abbrev pub last_line : List ℕ → ℕ
last_line script = count_by (λ c. c == 10) script + 1

-- a writer's lines behind those of all backends: it is a backend more, and refused at the script's
-- last line where it would be one too many
abbrev pub with_log_writer : ℕ → (last : ℕ) → List (List AskedLine)
    → Result (List (List AskedLine)) Refusal
with_log_writer count last backends =
    if nat_lt (length backends) most_backends then Ok (backends ++ writer_lines count ∷ [])
    else Err (record { line = last; fault = faults.Backends })

-- the same of a run that has a writer of so many lines, or none
abbrev pub with_any_log_writer : Option ℕ → (last : ℕ) → Result (List (List AskedLine)) Refusal
    → Result (List (List AskedLine)) Refusal
with_any_log_writer writer last (Err refusal) = Err refusal
with_any_log_writer None last (Ok backends) = Ok backends
with_any_log_writer (Some count) last (Ok backends) = with_log_writer count last backends

-- the meaning of a run's script with the run's writer, or its first refusal
abbrev pub run_meaning : (writer : Option ℕ) → List ℕ → Result (List (List AskedLine)) Refusal
run_meaning writer script = with_any_log_writer writer (last_line script) (backends_meaning script)

-- a line whose first field is not `B`
abbrev pub StaysInBackend : List ℕ → Type 0
StaysInBackend line = slice_get (fields_of line) 0 ≢ Some (codes "B")
