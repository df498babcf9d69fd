-- The first fields of lines.
use Rattle.std.proofs.Common.{◌≡◌, ℕ, ◌≤◌, Bool, true, false, ◌&&◌, List, [], ◌∷◌, ◌++◌, length, drop, slice_index, Result, Ok, Err, codes, eqb, refl, ap, sym, subst, arith}
use Rattle.std.proofs.lemmas.Bool.{and_parts, eqb-true}
use Rattle.std.proofs.Math.Bool.{and-false}
use Rattle.wal_types.specs.declared.record.Record.{Record}
use Rattle.wal_spelling.specs.Spelling.{IsWritable, assembled}
use Rattle.run_script.specs.Asked.{Insert}
use Rattle.run_script.specs.Text.{fields_of, is_text}
use Rattle.run_script.specs.Meaning.{LineMeaning, asks_as, insert_of, line_with, refuses}
use Rattle.run_script.specs.Reading.{FailsAs, InsertGives, JoinsLines, LineGives, RefusesLine}
use Rattle.run_script.specs.Replay.{backend_line_with, is_of_runs, of_backend, script_line_of, script_line_with}
use Rattle.run_script.specs.ReplayReading.{RefusesStep}
use Rattle.run_script.specs.declared.line_error.LineError.{LineError}
use Rattle.run_script.specs.declared.line_error.LineError.TheVariants as causes
use Rattle.run_script.specs.declared.line.Action.TheVariants as actions
use Rattle.run_script.specs.declared.line.Line.{Line}
use Rattle.run_script.specs.declared.line.ScriptFault.{ScriptFault}
use Rattle.run_script.specs.declared.line.ScriptFault.TheVariants as faults

-- no line begins with a longer word than a letter
pub line_with_long_word : (word : List ℕ) (fields : List (List ℕ)) → 2 ≤ length word → line_with (word ∷ fields) ≡ refuses faults.Word
line_with_long_word [] fields long = absurd (omega arith)
line_with_long_word (c ∷ []) fields long = absurd (omega arith)
line_with_long_word (c ∷ d ∷ word) fields long = simp and-false

-- no longer text is that of one byte
pub is_text-long : (text : List ℕ) (c : ℕ) → 2 ≤ length text → is_text text (c ∷ []) ≡ false
is_text-long [] c long = absurd (omega arith)
is_text-long (a ∷ []) c long = absurd (omega arith)
is_text-long (a ∷ b ∷ text) c long = simp and-false

-- not both hold where the second fails if the first holds
pub fails_both : (b c : Bool) → (b ≡ true → c ≡ false) → (b && c) ≡ false
fails_both false c fails = refl
fails_both true c fails = fails refl

-- texts that are the same
pub is_text-same : (text other : List ℕ) → is_text text other ≡ true → text ≡ other
is_text-same [] [] is = refl
is_text-same [] (d ∷ other) is = absurd cc
is_text-same (c ∷ text) [] is = absurd cc
is_text-same (c ∷ text) (d ∷ other) is =
    let both = and_parts (eqb c d) (is_text text other) is in
    rw (eqb-true c d both.0, is_text-same text other both.1) refl

-- no longer text is a letter of runs alone
pub is_of_runs-long : (word : List ℕ) → 2 ≤ length word → is_of_runs word ≡ false
is_of_runs-long word long = rw (is_text-long word 65 long, is_text-long word 76 long, is_text-long word 87 long) refl

-- a line that begins with neither `B` nor an `S` that the script takes is one of a backend's
pub script_line_of_backend : (takes_schedule : Bool) (word : List ℕ) (fields : List (List ℕ)) → is_text word (codes "B") ≡ false → (takes_schedule && is_text word (codes "S")) ≡ false → script_line_with takes_schedule (word ∷ fields) ≡ of_backend (backend_line_with takes_schedule word fields)
script_line_of_backend takes_schedule word fields no_begin no_end = simp (no_begin, no_end)

-- and refused as such
pub RefusesStep-of_backend : (error : LineError) (meaning : LineMeaning) → RefusesLine error meaning → RefusesStep error (of_backend meaning)
RefusesStep-of_backend causes.Memory meaning is = tt
RefusesStep-of_backend (causes.Fault fault) meaning is = ap of_backend is

-- a line `I` with fields
script_line_of-insert : (takes_schedule : Bool) (fields : List ℕ) → script_line_of takes_schedule (73 ∷ 32 ∷ fields) ≡ of_backend (asks_as Insert (insert_of (fields_of fields)))
script_line_of-insert true fields = refl
script_line_of-insert false fields = refl

-- the same by its first two bytes
pub script_line_of-fields : (takes_schedule : Bool) (line : List ℕ) → 2 ≤ length line → slice_index line 0 ≡ 73 → slice_index line 1 ≡ 32 → script_line_of takes_schedule line ≡ of_backend (asks_as Insert (insert_of (fields_of (drop 2 line))))
script_line_of-fields takes_schedule [] long one two = absurd (omega (arith, long))
script_line_of-fields takes_schedule (c ∷ []) long one two = absurd (omega (arith, long))
script_line_of-fields takes_schedule (c ∷ d ∷ fields) long one two = rw (one, two) (script_line_of-insert takes_schedule fields)

-- a line that inserts a record asks for it
pub JoinsLines-insert : (number : ℕ) (old new : List Line) (meaning : Result Record ScriptFault) (value : Record) → meaning ≡ Ok value → IsWritable value → new ≡ old ++ (record { number = number; action = actions.Insert (assembled value) }) ∷ [] → JoinsLines number old new (asks_as Insert meaning)
JoinsLines-insert number old new meaning value means could joins = subst (λ (m : Result Record ScriptFault). JoinsLines number old new (asks_as Insert m)) (sym means) (actions.Insert (assembled value), (refl, could), joins)

-- and is refused as its record
pub RefusesLine-insert : (error : LineError) (meaning : Result Record ScriptFault) → FailsAs error meaning → RefusesLine error (asks_as Insert meaning)
RefusesLine-insert causes.Memory meaning fails = tt
RefusesLine-insert (causes.Fault fault) meaning fails = ap (asks_as Insert) fails

-- what is read of a line that inserts is read of the line
pub LineGives-insert : {X : Type 0} (number : ℕ) (old new : List Line) (result : Result X LineError) (meaning : Result Record ScriptFault) → InsertGives number old new result meaning → LineGives number old new result (asks_as Insert meaning)
LineGives-insert number old new (Ok done) meaning gives = JoinsLines-insert number old new meaning gives.0 gives.1 gives.2 gives.3
LineGives-insert number old new (Err error) meaning gives = (RefusesLine-insert error meaning gives.0, gives.1)
