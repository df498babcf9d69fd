-- Completeness: what a run comes to that has room for its script, if nothing fails. It is done, or
-- memory runs out.
use Rattle.std.specs.Prelude.{◌≡◌, ℕ, ◌+◌, ◌-◌, ◌^◌, ◌<◌, ◌≤◌, ◌⊎◌, List, [], sum_by, IsSome, None, Ok, Option, Result, Some}
use Rattle.byte_position.specs.Position.{position_of}
use Rattle.segment_disk.specs.Tape.{Tape}
use Rattle.wal_page.specs.Order.{room_at}
use Rattle.wal_reader.specs.declared.found.FoundRecord.{FoundRecord}
use Rattle.found_log.specs.Found.{first_page}
use Rattle.reopened_log_laws.specs.WasLeft.{WasLeft}
use Rattle.run_script.specs.Asked.{AskedLine}
use Rattle.run_script.specs.declared.line.Refusal.{Refusal}
use Rattle.run_laws.specs.declared.told.Told.{Told}
use Rattle.run_laws.specs.Rooms.{all_rooms_asked, capacity_of}
use Rattle.run_laws.specs.Told.{IsRefused, SomeTold}
use Rattle.run_script.specs.Generated.{generated_script}
use Rattle.cli_line.specs.declared.commands.GenOptions.{GenOptions}
use Rattle.cli_line.specs.declared.commands.RunOptions.{RunOptions}
use Rattle.cli_line.specs.declared.commands.ScriptRunOptions.{ScriptRunOptions}
use Rattle.backend_cli.specs.declared.outcome.Outcome.{Outcome}
use Rattle.backend_cli.specs.declared.outcome.Outcome.TheVariants.{BeyondCap, Done, OutOfMemory}
use Rattle.backend_cli.specs.Appending.{AppendHolds}
use Rattle.backend_cli.specs.Outside.{Outside}
use Rattle.backend_cli.specs.Reading.{ScriptMeans}
use Rattle.backend_cli.specs.Run.{GenHolds, RunHolds}
use Rattle.backend_cli.specs.Setups.{system_id}

-- ---- the premises

-- a count of faults stayed, below the last value that it can have
abbrev pub NoFault : ℕ → ℕ → Type 0
NoFault old new = (new ≡ old) × (new < 2 ^ 64 - 1)

-- neither the source nor the disk nor the sink failed
pub record NothingFailed (outside : Outside) : Type 0 where
  pub source : NoFault outside.source_before.faults outside.source_after.faults
  pub disk : NoFault outside.disk_before outside.disk_after
  pub sink : NoFault outside.sink_before outside.sink_after

-- a script that the source handed out means these lines, with the run's writer
abbrev pub MeansThese : Option ℕ → List (List AskedLine) → Outside → Type 0
MeansThese writer script outside =
    (meaning : Result (List (List AskedLine)) Refusal)
    → ScriptMeans writer outside.source_before outside.source_after meaning → meaning ≡ Ok script

-- how many bytes of the log records take up that were found
abbrev pub rooms_found : ℕ → List FoundRecord → ℕ
rooms_found size found = sum_by (λ f. room_at size (position_of size f.head.start.0) f.value) found

-- the log has room for what was found and for all that a script asks for
abbrev pub LogHasRoom : RunOptions → List FoundRecord → List (List AskedLine) → Type 0
LogHasRoom options found script =
    rooms_found options.geometry found + all_rooms_asked options.geometry script
    ≤ capacity_of options.geometry options.cap_segments

-- ---- the laws

-- the log was opened, and no line was refused; or memory ran out, and nothing was told
abbrev pub IsComplete : List (List Told) → Outcome → Type 0
IsComplete lists Done = (lists ≡ [] → ⊥) × (SomeTold IsRefused lists → ⊥)
IsComplete lists OutOfMemory = lists ≡ []
IsComplete lists others = ⊥

-- so ends a run, where the disk told that no log is there
abbrev pub RunsAreComplete : Type 0
RunsAreComplete =
    (outside : Outside) (options : ScriptRunOptions) (outcome : Outcome) (lists : List (List Told))
    → RunHolds outside options outcome lists → NothingFailed outside
    → (script : List (List AskedLine)) → MeansThese options.writer script outside
    → LogHasRoom options.run [] script
    → (t : Tape) → outside.tape_before ≡ Some t → first_page t 1 ≡ None → IsComplete lists outcome

-- .. and one of lines that are made
abbrev pub MadeRunsAreComplete : Type 0
MadeRunsAreComplete =
    (outside : Outside) (options : GenOptions) (outcome : Outcome) (lists : List (List Told))
    → GenHolds outside options outcome lists → NothingFailed outside
    → LogHasRoom options.run [] (generated_script options.lines)
    → (t : Tape) → outside.tape_before ≡ Some t → first_page t 1 ≡ None → IsComplete lists outcome

-- .. and one that goes on with a log, where the disk told what this program left there; unless the
-- segment behind the last one allowed is there
abbrev pub AppendsAreComplete : Type 0
AppendsAreComplete =
    (outside : Outside) (options : ScriptRunOptions) (outcome : Outcome) (lists : List (List Told))
    → AppendHolds outside options outcome lists → NothingFailed outside
    → (script : List (List AskedLine)) → MeansThese options.writer script outside
    → (found : List FoundRecord) → LogHasRoom options.run found script
    → (t : Tape) → outside.tape_before ≡ Some t
    → WasLeft options.run.geometry system_id t found
    → IsComplete lists outcome
    ⊎ ((outcome ≡ BeyondCap) × (lists ≡ [])
    × IsSome (first_page t (options.run.cap_segments + 1)))
