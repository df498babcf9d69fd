use Rattle.std.proofs.Common.{◌≡◌, ℕ, false, ◌&&◌, List, ap, ◌∙◌, sym, subst, arith}
use Rattle.std.proofs.lemmas.Grind.{common_steps}
use Rattle.std.specs.Borrow.{Bor}
use Rattle.std.specs.Prelude.{codes}
use Rattle.run_script.specs.Replay.{ScriptLine, backend_line_with, of_backend, script_line_with}
use Rattle.run_script.specs.ReplayReading.{StepGives}
use Rattle.run_script.specs.Text.{is_text}
use Rattle.run_script.proofs.Words.{fails_both, is_text-long, script_line_of_backend}
use Rattle.run_script.proofs.backends.read_fields.Goals as goal

pub returns-in-Some : goal.returns-in-Some
returns-in-Some c =
    let takes = c.args.takes_schedule in
    let lines = c.args.read.now.lines.items in
    let new = c.backend_line.new.read.lines.items in
    let rest = c.next.new.self in
    let no_begin : is_text c.in-Some.word.now (codes "B") ≡ false = grind (arith, common_steps, is_text-long) in
    let no_end : (takes && is_text c.in-Some.word.now (codes "S")) ≡ false = fails_both takes (is_text c.in-Some.word.now (codes "S")) (λ so. grind (arith, common_steps, is_text-long, so)) in
    let means : script_line_with takes c.args.fields ≡ of_backend (backend_line_with takes c.in-Some.word.now rest) = ap (script_line_with takes) c.in-Some.ensures.steps ∙ script_line_of_backend takes c.in-Some.word.now rest no_begin no_end in
    let gives : StepGives c.args.number lines new c.backend_line.result (of_backend (backend_line_with takes c.in-Some.word.now rest)) = subst (λ (word : Bor (List ℕ)). StepGives c.args.number lines new c.backend_line.result (of_backend (backend_line_with takes word.now rest))) c.in-Some.word-is c.backend_line.ensures in
    subst (λ (line : ScriptLine). StepGives c.args.number lines new c.backend_line.result line) (sym means) gives
