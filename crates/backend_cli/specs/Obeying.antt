-- What a command line promises.
use Rattle.std.specs.Prelude.{◌≡◌, ◌⊎◌, ℕ, List, []}
use Rattle.backend_cli.specs.declared.outcome.Outcome.{Outcome}
use Rattle.backend_cli.specs.declared.outcome.Outcome.TheVariants.{OutOfMemory, Usage}
use Rattle.run_laws.specs.declared.told.Told.{Told}
use Rattle.cli_line.specs.declared.commands.Command.TheVariants.{Run, Append, Gen, Replay, Dump, Redo, Send, Receive}
use Rattle.cli_line.specs.declared.asking.Request.{Request}
use Rattle.cli_line.specs.declared.asking.Request.TheVariants.{Command, Help, Version, Nothing}
use Rattle.cli_line.specs.Texts.{help, version}
use Rattle.backend_cli.specs.Outside.{DiskSeen, Outside, IsUntouched, Took}
use Rattle.backend_cli.specs.Run.{GenHolds, RunHolds}
use Rattle.backend_cli.specs.Appending.{AppendHolds}
use Rattle.backend_cli.specs.Dumping.{DumpHolds}
use Rattle.backend_cli.specs.Receiving.{ReceiveHolds}
use Rattle.backend_cli.specs.Redoing.{RedoHolds}
use Rattle.backend_cli.specs.Sending.{SendHolds}
use Rattle.backend_cli.specs.Replaying.{ReplayHolds}

-- want of memory before the command is known: no counted call of the disk is made, nothing is read
-- or printed, and nothing told
pub record EndsUnread (outside : Outside) (outcome : Outcome) (lists : List (List Told))
    : Type 0 where
  pub memory : outcome ≡ OutOfMemory
  pub untouched : IsUntouched outside
  pub disk : outside.disk_after ≡ outside.disk_before
  pub unread : outside.source_after ≡ outside.source_before
  pub nothing_told : lists ≡ []

-- words that ask for nothing: no counted call of the disk is made, nothing is read or printed, and
-- nothing told
pub record IsUsage (outside : Outside) (outcome : Outcome) (lists : List (List Told)) : Type 0 where
  pub usage : outcome ≡ Usage
  pub untouched : IsUntouched outside
  pub disk : outside.disk_after ≡ outside.disk_before
  pub unread : outside.source_after ≡ outside.source_before
  pub nothing_told : lists ≡ []

-- words that ask for a text: it is printed, no counted call of the disk is made, nothing is read,
-- and nothing told
pub record IsExplained (text : List ℕ) (outside : Outside) (outcome : Outcome)
    (lists : List (List Told)) : Type 0 where
  pub usage : outcome ≡ Usage
  pub printed : Took outside.taken_before outside.taken_after outside.sink_before outside.sink_after
      text
  pub tape_same : outside.tape_after ≡ outside.tape_before
  pub moment_same : outside.moment_after ≡ outside.moment_before
  pub disk : outside.disk_after ≡ outside.disk_before
  pub unread : outside.source_after ≡ outside.source_before
  pub nothing_told : lists ≡ []

-- what is asked for is done
abbrev pub Obeys : {D : Type 0} → DiskSeen D → Request → Outside → Outcome → List (List Told)
    → Type 0
Obeys seen Nothing outside outcome lists = IsUsage outside outcome lists
Obeys seen Help outside outcome lists = IsExplained help outside outcome lists
Obeys seen Version outside outcome lists = IsExplained version outside outcome lists
Obeys seen (Command (Run options)) outside outcome lists = RunHolds outside options outcome lists
Obeys seen (Command (Append options)) outside outcome lists =
    AppendHolds outside options outcome lists
Obeys seen (Command (Gen options)) outside outcome lists = GenHolds outside options outcome lists
Obeys seen (Command (Replay options)) outside outcome lists =
    ReplayHolds outside options outcome lists
Obeys seen (Command (Dump options)) outside outcome lists = DumpHolds outside options outcome lists
Obeys seen (Command (Redo options)) outside outcome lists = RedoHolds outside options outcome lists
Obeys seen (Command (Send options)) outside outcome lists = SendHolds outside options outcome lists
Obeys seen (Command (Receive options)) outside outcome lists =
    ReceiveHolds seen outside options outcome lists

-- the same of a disk, or memory ran out before the command was known, and then the very disk comes
-- back
abbrev pub ObeysInMemory : {D : Type 0} → DiskSeen D → Request → Outside → Outcome
    → List (List Told) → Type 0
ObeysInMemory seen request outside outcome lists =
    (EndsUnread outside outcome lists × (seen.after ≡ seen.before))
    ⊎ Obeys seen request outside outcome lists

-- a run is asked for that begins a log, of a script or of lines that are made
abbrev pub AsksRun : Request → Type 0
AsksRun Nothing = ⊥
AsksRun Help = ⊥
AsksRun Version = ⊥
AsksRun (Command (Run options)) = Unit {0}
AsksRun (Command (Append options)) = ⊥
AsksRun (Command (Gen options)) = Unit {0}
AsksRun (Command (Replay options)) = ⊥
AsksRun (Command (Dump options)) = ⊥
AsksRun (Command (Redo options)) = ⊥
AsksRun (Command (Send options)) = ⊥
AsksRun (Command (Receive options)) = ⊥

-- a replay is asked for
abbrev pub AsksReplay : Request → Type 0
AsksReplay (Command (Replay options)) = Unit {0}
AsksReplay others = ⊥

-- no command is asked for
abbrev pub AsksNoCommand : Request → Type 0
AsksNoCommand Nothing = Unit {0}
AsksNoCommand Help = Unit {0}
AsksNoCommand Version = Unit {0}
AsksNoCommand (Command command) = ⊥
