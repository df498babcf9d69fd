-- What a run makes ready before it opens the log.
use Rattle.std.specs.Prelude.{◌≡◌, ℕ, ◌<◌, ◌≤◌, List, length, Option, Result, Ok, Err, Vec}
use Rattle.std.specs.declared.alloc.Global.{Global}
use Rattle.run_script.specs.Asked.{AskedLine}
use Rattle.run_script.specs.declared.line.Line.{Line}
use Rattle.run_script.specs.declared.line.Refusal.{Refusal}
use Rattle.run_script.specs.Replay.{most_backends}
use Rattle.run_script.specs.ReplayReading.{AreBackendsOf}
use Rattle.run_script.specs.Run.{run_meaning}
use Rattle.run_backends.specs.Backends.{IsRoomFor, scripts_of}
use Rattle.run_backends.specs.declared.playing.Room.{Room}
use Rattle.backend_cli.specs.declared.outcome.Outcome.{Outcome}
use Rattle.backend_cli.specs.declared.outcome.Outcome.TheVariants.{OutOfMemory, SourceFault, ScriptRefused}
use Rattle.backend_cli.specs.Outside.{SourceView}
use Rattle.backend_cli.specs.Reading.{ScriptMeans, ScriptMeansBy}
use Rattle.segment_disk.specs.Cause.{RoseByOne}

-- backends whose lines ask for this, some but no more than there may be, with all room that they
-- need
pub record IsPreparedFor (script : List (List AskedLine)) (room : Room) : Type 0 where
  pub lines : AreBackendsOf script (scripts_of room.backends.items)
  pub enough : IsRoomFor (scripts_of room.backends.items) room
  pub some : 0 < length script
  pub few : length script ≤ most_backends

-- why nothing was made ready: memory, the source, or the script, which means what `by` says, and
-- nothing else
abbrev pub IsUnpreparedBy : {X : Type 0} → (List ℕ → Result X Refusal) → SourceView → SourceView
    → Outcome → Type 0
IsUnpreparedBy by before after OutOfMemory = after.faults ≡ before.faults
IsUnpreparedBy by before after SourceFault = RoseByOne before.faults after.faults
IsUnpreparedBy by before after (ScriptRefused refusal) =
    ScriptMeansBy by before after (Err refusal)
IsUnpreparedBy by before after others = ⊥

-- the same of a run
abbrev pub IsUnprepared : Option ℕ → SourceView → SourceView → Outcome → Type 0
IsUnprepared writer before after outcome = IsUnpreparedBy (run_meaning writer) before after outcome

-- reading the lines of a script's backends
abbrev pub ReadsBackends : Option ℕ → SourceView → SourceView
    → Result (Vec (Vec Line Global) Global) Outcome → Type 0
ReadsBackends writer before after (Ok backends) =
    (script : List (List AskedLine)) × ScriptMeans writer before after (Ok script)
    × AreBackendsOf script backends.items
ReadsBackends writer before after (Err outcome) = IsUnprepared writer before after outcome

-- making all ready
abbrev pub Prepares : Option ℕ → SourceView → SourceView → Result Room Outcome → Type 0
Prepares writer before after (Ok room) =
    (script : List (List AskedLine)) × ScriptMeans writer before after (Ok script)
    × IsPreparedFor script room
Prepares writer before after (Err outcome) = IsUnprepared writer before after outcome
