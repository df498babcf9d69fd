use Rattle.std.proofs.Common.{◌≡◌, ℕ, ◌+◌, List, ◌∷◌, Result, length, subst, arith}
use Rattle.run_script.specs.declared.line_error.LineError.{LineError}
use Rattle.run_script.specs.Text.{lines_of}
use Rattle.run_script.specs.Meaning.{line_of, lines_meaning}
use Rattle.run_script.specs.Reading.{JoinsLines, LineGives}
use Rattle.run_script.proofs.Cuts.{length-pieces_of-le}
use Rattle.run_script.proofs.Scripts.{IsReadUpto, IsReadUpto-read}
use Rattle.run_script.proofs.parser.lines.Goals as goal

pub overflow_add-number : goal.overflow_add-number
overflow_add-number c = omega (arith, length-pieces_of-le 10 c.args.script.now)

pub loop-line-preserved : goal.loop-line-preserved
loop-line-preserved c =
    let text = c.in-Some.line.now in
    let rest = c.next.new.self in
    let number = c.loop-line.number + 1 in
    let lines = c.loop-line.read.lines.items in
    let new = c.read_line.new.read.lines.items in
    let whole = lines_meaning 1 (lines_of c.args.script.now) in
    let left : c.loop-line.line-iterator ≡ text ∷ rest = c.in-Some.ensures.steps in
    let joins : JoinsLines number lines new (line_of text) = subst (λ (result : Result (Unit {0}) LineError). LineGives number lines new result (line_of text)) c.in_default.is c.read_line.ensures in
    let before : IsReadUpto lines number (text ∷ rest) whole = subst (λ (texts : List (List ℕ)). IsReadUpto lines number texts whole) left c.loop-line.invariant.meaning in
    let count : c.loop-line.number + length (text ∷ rest) ≡ length (lines_of c.args.script.now) = subst (λ (texts : List (List ℕ)). c.loop-line.number + length texts ≡ length (lines_of c.args.script.now)) left c.loop-line.invariant.count in
    record {
      meaning = IsReadUpto-read lines number text rest whole before new joins;
      count = omega (arith, count);
    }
