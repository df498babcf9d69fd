-- How a command ends: its status, and the line that tells it.
use Rattle.std.specs.Prelude.{ℕ, List, [], ◌∷◌, codes}
use Rattle.std.specs.Fmt.{decimal}
use Rattle.wal_types.specs.LsnText.{lsn_text}
use Rattle.run_script.specs.Names.{fault_name}
use Rattle.run_script.specs.declared.parser.ParseError.{ParseError}
use Rattle.run_script.specs.declared.parser.ParseError.TheVariants as errors
use Rattle.wal_log.specs.declared.opening.OpenFaultKind.{OpenFaultKind}
use Rattle.wal_log.specs.declared.opening.OpenFaultKind.TheVariants as opens
use Rattle.wal_reader.specs.Names.{damage_name}
use Rattle.wal_reader.specs.declared.found.Stopped.{Stopped as LogStop}
use Rattle.wal_reader.specs.declared.found.Stopped.TheVariants as stops
use Rattle.backend_cli.specs.declared.outcome.Outcome.{Outcome}
use Rattle.backend_cli.specs.declared.outcome.Outcome.TheVariants.{Done, OutOfMemory, Usage, SourceFault, ScriptRefused, NotEmpty, BeyondCap, DiskFault, Stopped, Diverged, TooManyFrames, LogFull, SinkFault}
use Rattle.backend_cli.specs.declared.reading.ScriptUnread.{ScriptUnread}
use Rattle.backend_cli.specs.declared.reading.ScriptUnread.TheVariants as failures

-- how a command ends whose script could not be read
abbrev pub outcome_unread : ScriptUnread → Outcome
outcome_unread failures.Memory = OutOfMemory
outcome_unread failures.Source = SourceFault

-- and one whose script has no meaning, or memory ran out
abbrev pub outcome_unparsed : ParseError → Outcome
outcome_unparsed errors.Memory = OutOfMemory
outcome_unparsed (errors.Refused refusal) = ScriptRefused refusal

-- and one whose log was not opened; its setup is one that a log can have
abbrev pub outcome_unopened : OpenFaultKind → Outcome
outcome_unopened opens.BadSetup = OutOfMemory
outcome_unopened opens.Memory = OutOfMemory
outcome_unopened (opens.Disk faults) = DiskFault
outcome_unopened opens.NotEmpty = NotEmpty
outcome_unopened (opens.Beyond segment) = BeyondCap
outcome_unopened (opens.Foreign stop) = Stopped stop

-- the exit status
abbrev pub status_of : Outcome → ℕ
status_of Done = 0
status_of OutOfMemory = 1
status_of Usage = 2
status_of (ScriptRefused refusal) = 3
status_of DiskFault = 4
status_of LogFull = 5
status_of (Stopped stop) = 6
status_of (Diverged at) = 6
status_of SourceFault = 7
status_of SinkFault = 8
status_of NotEmpty = 9
status_of BeyondCap = 10
status_of TooManyFrames = 11

-- where the log stops, and why
abbrev pub stop_text : LogStop → List (List ℕ)
stop_text (stops.Damaged at kind) =
    codes "pgwal: damaged at " ∷ lsn_text at.0 ∷ codes ": " ∷ damage_name kind ∷ codes "\n" ∷ []
stop_text (stops.Compressed at) =
    codes "pgwal: damaged at " ∷ lsn_text at.0 ∷ codes ": compressed\n" ∷ []
stop_text (stops.Overwritten at) =
    codes "pgwal: damaged at " ∷ lsn_text at.0 ∷ codes ": overwritten\n" ∷ []

-- what is told on standard error: nothing where all is done
abbrev pub outcome_text : Outcome → List (List ℕ)
outcome_text Done = []
outcome_text OutOfMemory = codes "pgwal: out of memory\n" ∷ []
outcome_text Usage = codes "pgwal: usage\n" ∷ []
outcome_text (ScriptRefused refusal) =
    codes "pgwal: script line " ∷ decimal refusal.line ∷ codes ": " ∷ fault_name refusal.fault
    ∷ codes "\n" ∷ []
outcome_text DiskFault = codes "pgwal: disk fault\n" ∷ []
outcome_text LogFull = codes "pgwal: log full\n" ∷ []
outcome_text (Stopped stop) = stop_text stop
outcome_text (Diverged at) =
    codes "pgwal: damaged at " ∷ lsn_text at.0 ∷ codes ": " ∷ codes "diverged" ∷ codes "\n" ∷ []
outcome_text TooManyFrames = codes "pgwal: too many frames\n" ∷ []
outcome_text SourceFault = codes "pgwal: source fault\n" ∷ []
outcome_text SinkFault = codes "pgwal: sink fault\n" ∷ []
outcome_text NotEmpty = codes "pgwal: log not empty\n" ∷ []
outcome_text BeyondCap = codes "pgwal: log beyond cap\n" ∷ []
