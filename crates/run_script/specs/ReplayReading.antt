-- What a reader of a replay's script returns, beside what the script means: want of memory is no
-- part of the meaning.
use Rattle.std.specs.Prelude.{◌≡◌, ℕ, ◌+◌, ◌<◌, ◌≤◌, IfSome, length, List, [], ◌∷◌, Option, Some, None, Result, Ok, Err}
use Rattle.std.specs.Global.{Vec}
use Rattle.run_script.specs.declared.item.Item.{Item}
use Rattle.run_script.specs.declared.schedule.ScheduleError.{ScheduleError}
use Rattle.run_script.specs.declared.schedule.ScheduleError.TheVariants as schedule_errors
use Rattle.cli_text.specs.Parts.{bytes_left, parts_left}
use Rattle.run_script.specs.declared.backends.Backends.{Backends}
use Rattle.run_script.specs.declared.backends.ScheduleText.{ScheduleText}
use Rattle.run_script.specs.declared.backends.LineRead.{LineRead}
use Rattle.run_script.specs.declared.backends.LineRead.TheVariants as steps
use Rattle.run_script.specs.declared.line.Line.{Line}
use Rattle.run_script.specs.declared.line.Refusal.{Refusal}
use Rattle.run_script.specs.declared.line.ScriptFault.TheVariants as faults
use Rattle.run_script.specs.declared.line_error.LineError.{LineError}
use Rattle.run_script.specs.declared.line_error.LineError.TheVariants as causes
use Rattle.run_script.specs.declared.parser.ParseError.{ParseError}
use Rattle.run_script.specs.declared.parser.ParseError.TheVariants as errors
use Rattle.run_script.specs.declared.replay.Replay.{Replay}
use Rattle.run_script.specs.Asked.{AskedLine}
use Rattle.run_script.specs.Bodies.{AreLinesOf}
use Rattle.run_script.specs.Meaning.{LineMeaning, refuses}
use Rattle.run_script.specs.Reading.{JoinsLines, RefusesScript}
use Rattle.run_script.specs.Replay.{ScriptLine, of_backend, begins, ends, ScheduleLines, BackendsMeaning, ReplayMeaning, most_backends}

-- each backend's lines do what is asked of it, in order, and there are as many backends
abbrev pub AreBackendsOf : List (List AskedLine) → List (Vec Line) → Type 0
AreBackendsOf [] [] = Unit {0}
AreBackendsOf (asked ∷ others) (lines ∷ backends) =
    AreLinesOf asked lines.items × AreBackendsOf others backends
AreBackendsOf asked others = ⊥

-- a replay does what a script means
abbrev pub DoesReplay : Replay → Result ReplayMeaning Refusal → Type 0
DoesReplay replay meaning =
    (asked : ReplayMeaning) × (meaning ≡ Ok asked)
    × AreBackendsOf asked.backends replay.backends.items × (asked.schedule ≡ replay.schedule)

-- a script's replay does what it means, and its refusal is what it means; nothing is said where
-- memory ran out
abbrev pub GivesReplay : Result Replay ParseError → Result ReplayMeaning Refusal → Type 0
GivesReplay (Ok replay) meaning = DoesReplay replay meaning
GivesReplay (Err error) meaning = RefusesScript error meaning

-- a step does what a line means: one of the backend under way joins its lines, and no other changes
-- them
abbrev pub DoesStep : ℕ → List Line → List Line → LineRead → ScriptLine → Type 0
DoesStep number old new steps.Within meaning =
    (line : LineMeaning) × (meaning ≡ of_backend line) × JoinsLines number old new line
DoesStep number old new (steps.Begin is_alone) meaning = (meaning ≡ begins is_alone) × (new ≡ old)
DoesStep number old new steps.End meaning = (meaning ≡ ends) × (new ≡ old)

-- a line that is refused so means that fault
abbrev pub RefusesStep : LineError → ScriptLine → Type 0
RefusesStep causes.Memory meaning = Unit {0}
RefusesStep (causes.Fault fault) meaning = meaning ≡ of_backend (refuses fault)

-- what was read of a line does what it means; its fault is what it means, and leaves the lines as
-- they were
abbrev pub StepGives : ℕ → List Line → List Line → Result LineRead LineError → ScriptLine → Type 0
StepGives number old new (Ok step) meaning = DoesStep number old new step meaning
StepGives number old new (Err error) meaning = RefusesStep error meaning × (new ≡ old)

-- the lines of what stands behind a line `S`
abbrev pub schedule_lines : Option ScheduleText → Option ScheduleLines
schedule_lines None = None
schedule_lines (Some schedule) =
    Some (record { number = schedule.number; texts = parts_left 10 schedule.text })

-- what was read up to a line `S` does what is meant
abbrev pub DoesBackends : Backends → Result BackendsMeaning Refusal → Type 0
DoesBackends read meaning =
    (asked : BackendsMeaning) × (meaning ≡ Ok asked)
    × AreBackendsOf asked.backends read.lines.items
    × (asked.schedule ≡ schedule_lines read.schedule)

-- there are from one to 64 backends, and no more is left than there was, each line counted as a
-- byte
pub record HasReadBackends (size : ℕ) (read : Backends) : Type 0 where
  pub some : 0 < length read.lines.items
  pub most : length read.lines.items ≤ most_backends
  pub left : IfSome read.schedule (λ schedule.
      schedule.number + bytes_left schedule.text ≤ size + 1)

abbrev pub GivesBackends : Result Backends ParseError → Result BackendsMeaning Refusal → Type 0
GivesBackends (Ok read) meaning = DoesBackends read meaning
GivesBackends (Err error) meaning = RefusesScript error meaning

-- a schedule is the items that are meant, and its refusal is what is meant
abbrev pub GivesSchedule : Result (List Item) ParseError → Result (List Item) Refusal → Type 0
GivesSchedule (Ok items) meaning = meaning ≡ Ok items
GivesSchedule (Err error) meaning = RefusesScript error meaning

-- why a script was not read, from why its schedule was not
abbrev pub schedule_error : ScheduleError → ParseError
schedule_error schedule_errors.Memory = errors.Memory
schedule_error (schedule_errors.Refused line) =
    errors.Refused (record { line = line; fault = faults.Schedule })
