-- What the words of a command line ask the backends of a run to do.
use Rattle.std.specs.Prelude.{◌≡◌, ℕ, List, Ok}
use Rattle.run_script.specs.Asked.{AskedLine}
use Rattle.run_script.specs.Generated.{generated_script}
use Rattle.cli_line.specs.declared.commands.Command.TheVariants.{Run, Append, Gen, Replay, Dump, Redo, Send, Receive}
use Rattle.cli_line.specs.declared.asking.Request.{Request}
use Rattle.cli_line.specs.declared.asking.Request.TheVariants.{Command, Help, Version, Nothing}
use Rattle.backend_cli.specs.Outside.{SourceView}
use Rattle.backend_cli.specs.Reading.{ScriptMeans}

-- a log in segments of this size, and these lines of each backend: those that the script means that
-- the source handed out, with the run's writer, or those that are made
abbrev pub AsksBackends : Request → SourceView → SourceView → ℕ → List (List AskedLine) → Type 0
AsksBackends Nothing before after size script = ⊥
AsksBackends Help before after size script = ⊥
AsksBackends Version before after size script = ⊥
AsksBackends (Command (Run options)) before after size script =
    (size ≡ options.run.geometry) × ScriptMeans options.writer before after (Ok script)
AsksBackends (Command (Append options)) before after size script = ⊥
AsksBackends (Command (Gen options)) before after size script =
    (size ≡ options.run.geometry) × (script ≡ generated_script options.lines)
AsksBackends (Command (Replay options)) before after size script = ⊥
AsksBackends (Command (Dump options)) before after size script = ⊥
AsksBackends (Command (Redo options)) before after size script = ⊥
AsksBackends (Command (Send options)) before after size script = ⊥
AsksBackends (Command (Receive options)) before after size script = ⊥

-- the same of a run that goes on with the log that is there
abbrev pub AsksAppend : Request → SourceView → SourceView → ℕ → List (List AskedLine) → Type 0
AsksAppend (Command (Append options)) before after size script =
    (size ≡ options.run.geometry) × ScriptMeans options.writer before after (Ok script)
AsksAppend others before after size script = ⊥
