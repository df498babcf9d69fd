-- The told lines of the lines that are left.
use Rattle.std.proofs.Common.{◌≡◌, ℕ, ◌+◌, Bor, Some, Option, ◌<◌, List, ◌∷◌, ◌++◌, length, drop, get_or, ap, ap₂, ◌∙◌, sym}
use Rattle.std.proofs.iter.Yields.{fronts}
use Rattle.std.proofs.lemmas.Iterator.{zips}
use Rattle.std.proofs.lemmas.List.{at_drop_more, drop_more}
use Rattle.std.proofs.lemmas.Slice.Zip.{zip_turn}
use Rattle.std.specs.Iterator.{Yields}
use Rattle.std.specs.Iterator.Adapters.{zip_first, zip_second}
use Rattle.std.specs.Slice.Iter.{iter_rest}
use Rattle.std.specs.declared.iter.Zip.{Zip}
use Rattle.std.specs.declared.slice.Iter.{Iter}
use Rattle.run_script.specs.declared.line.Line.{Line}
use Rattle.run_laws.specs.declared.told.Told.{Told}
use Rattle.backend_cli.specs.Texts.{told_line}
use Rattle.run_backends.specs.declared.backend.AnsweredLines.{AnsweredLines}
use Rattle.backend_cli.specs.Printing.{told_lines, told_lines_upward}

-- the line of the first of them stands in front
pub told_lines-drop : (backend i : ℕ) (lines : List Line) (told : List Told) (line : Line) (answer : Told) → i < length lines → i < length told → line ≡ get_or lines i line → answer ≡ get_or told i answer
    → told_lines backend (drop i lines) (drop i told) ≡ told_line backend line.number answer ++ told_lines backend (drop (i + 1) lines) (drop (i + 1) told)
told_lines-drop backend i lines told line answer in_lines in_told line_is answer_is =
    let left = drop_more lines i line in_lines ∙ ap (λ (t : Line). t ∷ drop (i + 1) lines) (sym line_is) in
    let answers = drop_more told i answer in_told ∙ ap (λ (a : Told). a ∷ drop (i + 1) told) (sym answer_is) in
    ap₂ (told_lines backend) left answers

-- so it does in a loop over both, at the pair that is next
pub told_lines-next : (backend : ℕ) (lines : List Line) (told : List Told) (pairs : List (Bor Line × Bor Told)) (start now next : Zip (Iter Line) (Iter Told)) (result : Option (Bor Line × Bor Told))
    → iter_rest (zip_first start) ≡ lines → iter_rest (zip_second start) ≡ told → Yields (zips fronts fronts) start pairs now → (pair : Bor Line × Bor Told) → result ≡ Some pair → zips fronts fronts now result next
    → told_lines backend (drop (length pairs) lines) (drop (length pairs) told) ≡ told_line backend pair.0.now.number pair.1.now ++ told_lines backend (drop (length pairs + 1) lines) (drop (length pairs + 1) told)
told_lines-next backend lines told pairs start now next result first second yielded pair is steps =
    let turn = zip_turn lines told pairs start now next result first second yielded pair is steps in
    told_lines-drop backend (length pairs) lines told pair.0.now pair.1.now turn.0 turn.1 (turn.2 pair.0.now) (turn.3 pair.1.now)

-- the lines of the next backend stand in front
pub told_lines_upward-drop : (backends : List AnsweredLines) (number : ℕ) (b : AnsweredLines) (lines : List Line) (told : List Told) → number < length backends → b ≡ get_or backends number b → lines ≡ b.lines.items → told ≡ b.told.items
    → told_lines_upward number (drop number backends) ≡ told_lines number lines told ++ told_lines_upward (number + 1) (drop (number + 1) backends)
told_lines_upward-drop backends number b lines told within is lines_are told_are =
    let rest = told_lines_upward (number + 1) (drop (number + 1) backends) in
    at_drop_more (told_lines_upward number) backends number b within
    ∙ ap (λ (x : AnsweredLines). told_lines number x.lines.items x.told.items ++ rest) (sym is)
    ∙ ap₂ (λ (l : List Line) (t : List Told). told_lines number l t ++ rest) (sym lines_are) (sym told_are)
