-- What a reader of a run's script returns, beside what the script means: want of memory is no part
-- of the meaning.
use Rattle.std.specs.Prelude.{◌≡◌, List, Result, Ok, Err}
use Rattle.std.specs.Global.{Vec}
use Rattle.run_script.specs.declared.line.Line.{Line}
use Rattle.run_script.specs.declared.line.Refusal.{Refusal}
use Rattle.run_script.specs.declared.parser.ParseError.{ParseError}
use Rattle.run_script.specs.Asked.{AskedLine}
use Rattle.run_script.specs.Reading.{RefusesScript}
use Rattle.run_script.specs.ReplayReading.{AreBackendsOf}

-- the lines of each backend do what a script means
abbrev pub DoesRun : List (Vec Line) → Result (List (List AskedLine)) Refusal → Type 0
DoesRun backends meaning =
    (asked : List (List AskedLine)) × (meaning ≡ Ok asked) × AreBackendsOf asked backends

-- the lines of a script's backends do what it means, and its refusal is what it means; nothing is
-- said where memory ran out
abbrev pub GivesRun : Result (Vec (Vec Line)) ParseError → Result (List (List AskedLine)) Refusal
    → Type 0
GivesRun (Ok backends) meaning = DoesRun backends.items meaning
GivesRun (Err error) meaning = RefusesScript error meaning
