-- What a replay makes ready before its first turn.
use Rattle.std.specs.Prelude.{◌≡◌, ℕ, List, length, map, Result, Ok, Err}
use Rattle.machine_turns.specs.Doing.{Machine}
use Rattle.wal_core.specs.Cores.{IsPlayed, core_of}
use Rattle.wal_core.specs.Playing.{PlaysMachine}
use Rattle.wal_core.specs.declared.machine.Core.{Core}
use Rattle.machine_turns.specs.declared.script.PlainLine.{PlainLine as MachineLine}
use Rattle.machine_turns.specs.declared.script.PlainLine.TheVariants as machine_lines
use Rattle.run_script.specs.Asked.{AskedLine}
use Rattle.run_script.specs.Replay.{ReplayMeaning, replay_meaning}
use Rattle.run_script.specs.ReplayReading.{AreBackendsOf}
use Rattle.run_script.specs.declared.line.Action.{Action}
use Rattle.run_script.specs.declared.line.Action.TheVariants as actions
use Rattle.run_script.specs.declared.line.Line.{Line}
use Rattle.run_script.specs.declared.replay.Replay.{Replay}
use Rattle.cli_line.specs.declared.commands.ReplayOptions.{ReplayOptions}
use Rattle.backend_cli.specs.declared.outcome.Outcome.{Outcome}
use Rattle.backend_cli.specs.declared.replay.ReplayBegun.{ReplayBegun}
use Rattle.backend_cli.specs.Outside.{SourceView}
use Rattle.backend_cli.specs.Prepared.{IsUnpreparedBy}
use Rattle.backend_cli.specs.Reading.{ScriptMeansBy}
use Rattle.backend_cli.specs.Replaying.{BeginsReplay}

-- what a line does, as a line of the machine
abbrev pub machine_line_of : Action → MachineLine
machine_line_of (actions.Insert body) = machine_lines.Insert body
machine_line_of (actions.Commit body) = machine_lines.Commit body
machine_line_of actions.Flush = machine_lines.Flush
machine_line_of (actions.CommitAsync body) = machine_lines.Commit body
machine_line_of actions.WriteBehind = machine_lines.Flush
machine_line_of (actions.Switch body) = machine_lines.Flush

abbrev pub machine_lines_of : List Line → List MachineLine
machine_lines_of lines = map (λ line. machine_line_of line.action) lines

-- a replay does what the script means that was read
pub record DoesMeaning (before after : SourceView) (replay : Replay) (meaning : ReplayMeaning)
    : Type 0 where
  pub means : ScriptMeansBy replay_meaning before after (Ok meaning)
  pub backends : AreBackendsOf meaning.backends replay.backends.items
  pub schedule : meaning.schedule ≡ replay.schedule

-- reading a replay's script
abbrev pub ReadsReplay : SourceView → SourceView → Result Replay Outcome → Type 0
ReadsReplay before after (Ok replay) =
    (meaning : ReplayMeaning) × DoesMeaning before after replay meaning
ReadsReplay before after (Err outcome) = IsUnpreparedBy replay_meaning before after outcome

-- the core plays this machine, whose backends have so many lines
pub record PlaysBackends (core : Core) (line_counts : List ℕ) (m : Machine) : Type 0 where
  pub plays : PlaysMachine (core_of core) m
  pub counts : line_counts ≡ map (λ b. length b.asks) m.backends

-- the core plays the machine as which the replay of these lines begins
pub record IsReplayBegun (options : ReplayOptions) (backends : List (List AskedLine))
    (begun : ReplayBegun) : Type 0 where
  pub first : Machine
  pub begins : BeginsReplay options backends first
  pub counted : PlaysBackends begun.core begun.line_counts.items first
  pub played : IsPlayed begun.core
