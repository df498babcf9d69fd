-- What a script that was read from a source means.
use Rattle.std.proofs.Common.{◌≡◌, ℕ, ◌+◌, List, Option, Some, None, Result, IfSome, sym, ap, ◌∙◌}
use Rattle.run_script.specs.Asked.{AskedLine}
use Rattle.run_script.specs.declared.line.Refusal.{Refusal}
use Rattle.run_script.specs.declared.parser.ParseError.{ParseError}
use Rattle.run_script.specs.declared.parser.ParseError.TheVariants as errors
use Rattle.run_script.specs.Meaning.{script_limit}
use Rattle.run_script.specs.Run.{run_meaning}
use Rattle.run_script.specs.Reading.{RefusesScript}
use Rattle.backend_cli.specs.Outcome.{outcome_unparsed}
use Rattle.backend_cli.specs.Outside.{SourceView}
use Rattle.backend_cli.specs.Prepared.{IsUnpreparedBy}
use Rattle.backend_cli.specs.Reading.{IsFront, ReadsScript, ScriptMeans}
use Rattle.backend_cli.proofs.ScriptLaws.{run_meaning_of_front}

-- a front of what a source had left, up to one byte past the limit, means what all of it means
front_means : (writer : Option ℕ) (left : Option (List ℕ)) (script : List ℕ) (meaning : Result (List (List AskedLine)) Refusal) → IsFront (script_limit + 1) left script → run_meaning writer script ≡ meaning → IfSome left (λ bytes. run_meaning writer bytes ≡ meaning)
front_means writer None script meaning is means = tt
front_means writer (Some bytes) script meaning is means = sym (run_meaning_of_front writer bytes) ∙ ap (run_meaning writer) (sym is) ∙ means

pub read_script_means : (writer : Option ℕ) (before after : SourceView) (meaning : Result (List (List AskedLine)) Refusal) → ScriptMeans writer before after meaning → IfSome before.left (λ bytes. run_meaning writer bytes ≡ meaning)
read_script_means writer before after meaning means = front_means writer before.left means.0 meaning means.1.is_front means.2

-- a script that has no meaning ends the command so
module _ {X : Type 0} (by : List ℕ → Result X Refusal) (before after : SourceView) where
  pub ends_unparsed : (error : ParseError) (script : List ℕ) → ReadsScript before after script → RefusesScript error (by script) → IsUnpreparedBy by before after (outcome_unparsed error)
  ends_unparsed errors.Memory script reads refuses = reads.faults_same
  ends_unparsed (errors.Refused refusal) script reads refuses = (script, reads, refuses)
