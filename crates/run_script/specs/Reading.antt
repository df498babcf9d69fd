-- What a reader of scripts returns, beside what they mean: want of memory is no part of the
-- meaning.
use Rattle.std.specs.Prelude.{◌≡◌, ℕ, List, [], ◌∷◌, ◌++◌, Option, Some, None, Result, Ok, Err}
use Rattle.std.specs.Global.{Vec}
use Rattle.run_script.specs.declared.line.Line.{Line}
use Rattle.run_script.specs.declared.line.Action.{Action}
use Rattle.run_script.specs.declared.line.Action.TheVariants as actions
use Rattle.run_script.specs.declared.line.Refusal.{Refusal}
use Rattle.run_script.specs.declared.parser.ParseError.{ParseError}
use Rattle.run_script.specs.declared.parser.ParseError.TheVariants as errors
use Rattle.run_script.specs.declared.line_error.LineError.{LineError}
use Rattle.run_script.specs.declared.line_error.LineError.TheVariants as causes
use Rattle.run_script.specs.declared.line.ScriptFault.{ScriptFault}
use Rattle.wal_spelling.specs.declared.fault.BodyErr.{BodyErr}
use Rattle.wal_spelling.specs.Spelling.{Assembled, IsWritable, assembled}
use Rattle.wal_types.specs.declared.record.Record.{Record}
use Rattle.run_script.specs.Asked.{Asked, AskedLine}
use Rattle.run_script.specs.Bodies.{AreLinesOf, IsActionOf, IsBodyOf}
use Rattle.run_script.specs.Meaning.{LineMeaning, passes, asks, refuses, assembly_fault}

-- a script that is refused so means that refusal
abbrev pub RefusesScript : {X : Type 0} → ParseError → Result X Refusal → Type 0
RefusesScript errors.Memory meaning = Unit {0}
RefusesScript (errors.Refused refusal) meaning = meaning ≡ Err refusal

-- lines do what a script means
abbrev pub DoesScript : List Line → Result (List AskedLine) Refusal → Type 0
DoesScript lines meaning = (asked : List AskedLine) × (meaning ≡ Ok asked) × AreLinesOf asked lines

-- a script's lines do what it means, and its refusal is what it means; nothing is said where memory
-- ran out
abbrev pub GivesLines : Result (Vec Line) ParseError → Result (List AskedLine) Refusal → Type 0
GivesLines (Ok lines) meaning = DoesScript lines.items meaning
GivesLines (Err error) meaning = RefusesScript error meaning

-- a line that is refused so means that fault
abbrev pub RefusesLine : LineError → LineMeaning → Type 0
RefusesLine causes.Memory meaning = Unit {0}
RefusesLine (causes.Fault fault) meaning = meaning ≡ refuses fault

-- an action does what a line means
abbrev pub DoesLine : Action → LineMeaning → Type 0
DoesLine action meaning = (asked : Asked) × (meaning ≡ asks asked) × IsActionOf asked action

-- an action was read that does what a line means, and its fault is what the line means
abbrev pub ActionGives : Result Action LineError → LineMeaning → Type 0
ActionGives (Ok action) meaning = DoesLine action meaning
ActionGives (Err error) meaning = RefusesLine error meaning

-- a line of this number joins those before, and does what it means; one that passes is none
abbrev pub JoinsLines : ℕ → List Line → List Line → LineMeaning → Type 0
JoinsLines number old new passes = new ≡ old
JoinsLines number old new (asks asked) =
    (action : Action) × IsActionOf asked action
    × (new ≡ old ++ (record { number = number; action = action }) ∷ [])
JoinsLines number old new (refuses fault) = ⊥

-- a line that was read joins those before by what it means; its fault is what it means, and leaves
-- them as they were
abbrev pub LineGives : {X : Type 0} → ℕ → List Line → List Line → Result X LineError → LineMeaning
    → Type 0
LineGives number old new (Ok done) meaning = JoinsLines number old new meaning
LineGives number old new (Err error) meaning = RefusesLine error meaning × (new ≡ old)

-- fields with this fault mean it; nothing is said where memory ran out
abbrev pub FailsAs : {X : Type 0} → LineError → Result X ScriptFault → Type 0
FailsAs causes.Memory meaning = Unit {0}
FailsAs (causes.Fault fault) meaning = meaning ≡ Err fault

-- what was read of fields, seen by `view`, is what they mean, and their fault is
abbrev pub JudgesAs : {X Y : Type 0} → (X → Y) → Result X LineError → Result Y ScriptFault → Type 0
JudgesAs view (Ok x) meaning = meaning ≡ Ok (view x)
JudgesAs view (Err error) meaning = FailsAs error meaning

abbrev pub Judges : {X : Type 0} → Result X LineError → Result X ScriptFault → Type 0
Judges = JudgesAs (λ x. x)

-- what was assembled is the record that fields mean, and their fault is theirs
abbrev pub JudgesBody : Result Assembled LineError → Result Record ScriptFault → Type 0
JudgesBody (Ok body) meaning = (value : Record) × (meaning ≡ Ok value) × IsBodyOf value body
JudgesBody (Err error) meaning = FailsAs error meaning

-- a line that inserts the record that fields mean joins those before; their fault is what they
-- mean, and leaves them as they were
abbrev pub InsertGives : {X : Type 0} → ℕ → List Line → List Line → Result X LineError
    → Result Record ScriptFault → Type 0
InsertGives number old new (Ok done) meaning =
    (value : Record) × (meaning ≡ Ok value) × IsWritable value
    × (new ≡ old ++ (record { number = number; action = actions.Insert (assembled value) }) ∷ [])
InsertGives number old new (Err error) meaning = FailsAs error meaning × (new ≡ old)

-- the bytes that fields mean stand behind those before, and their fault is theirs
abbrev pub Appends : {X : Type 0} → List ℕ → List ℕ → Result X LineError
    → Result (List ℕ) ScriptFault → Type 0
Appends old new (Ok done) meaning =
    (bytes : List ℕ) × (meaning ≡ Ok bytes) × (new ≡ old ++ bytes)
Appends old new (Err error) meaning = FailsAs error meaning

-- why a line was not read, from why its record is not assembled
abbrev pub error_or_memory : Option ScriptFault → LineError
error_or_memory None = causes.Memory
error_or_memory (Some fault) = causes.Fault fault

abbrev pub line_error : BodyErr → LineError
line_error refusal = error_or_memory (assembly_fault refusal)

-- why a script was not read, from why a line was not
abbrev pub at_line : ℕ → LineError → ParseError
at_line line causes.Memory = errors.Memory
at_line line (causes.Fault fault) = errors.Refused (record { line = line; fault = fault })
