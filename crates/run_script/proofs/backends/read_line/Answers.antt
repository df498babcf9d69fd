use Rattle.std.proofs.Common.{◌≡◌, ◌-◌, ◌∙◌, ap, drop, length, slice_index, sym, take_all, arith}
use Rattle.std.proofs.lemmas.Grind.{common_steps}
use Rattle.std.proofs.lemmas.List.{length-drop}
use Rattle.std.proofs.lemmas.Result.{err_from_is_err_and}
use Rattle.run_script.specs.Asked.{Insert}
use Rattle.run_script.specs.Meaning.{asks_as, insert_of}
use Rattle.run_script.specs.Replay.{of_backend, script_line_of}
use Rattle.run_script.specs.Text.{fields_of}
use Rattle.run_script.proofs.Words.{JoinsLines-insert, RefusesLine-insert, RefusesStep-of_backend, script_line_of-fields}
use Rattle.run_script.proofs.backends.read_line.Goals as goal

pub returns-in_err-insert-in-73 : goal.returns-in_err-insert-in-73
returns-in_err-insert-in-73 c =
    let line = c.args.line.now in
    let meaning = insert_of c.of.result in
    let error = c.in_err-insert-in-73.field-0.0 in
    let one : slice_index line 0 ≡ 73 = grind (arith, common_steps) in
    let two : slice_index line 1 ≡ 32 = grind (arith, common_steps) in
    let fields : fields_of (drop 2 line) ≡ c.of.result = rw (c.of.ensures) (ap fields_of (sym (take_all (length line - 2) (drop 2 line) (omega (arith, length-drop 2 line))))) in
    let means : script_line_of c.args.takes_schedule line ≡ of_backend (asks_as Insert meaning) = script_line_of-fields c.args.takes_schedule line c.in-73.len_at_least one two ∙ ap (λ fields. of_backend (asks_as Insert (insert_of fields))) fields in
    let exit = err_from_is_err_and c.from_residual.result c.from_residual.ensures.1 in
    rw (exit.1, exit.2, means) (RefusesStep-of_backend error (asks_as Insert meaning) (RefusesLine-insert error meaning c.in_err-insert-in-73.ensures.0), c.in_err-insert-in-73.ensures.1)

pub returns-in_ok-insert-in-73 : goal.returns-in_ok-insert-in-73
returns-in_ok-insert-in-73 c =
    let line = c.args.line.now in
    let meaning = insert_of c.of.result in
    let read = c.in_ok-insert-in-73.ensures in
    let one : slice_index line 0 ≡ 73 = grind (arith, common_steps) in
    let two : slice_index line 1 ≡ 32 = grind (arith, common_steps) in
    let fields : fields_of (drop 2 line) ≡ c.of.result = rw (c.of.ensures) (ap fields_of (sym (take_all (length line - 2) (drop 2 line) (omega (arith, length-drop 2 line))))) in
    let means : script_line_of c.args.takes_schedule line ≡ of_backend (asks_as Insert meaning) = script_line_of-fields c.args.takes_schedule line c.in-73.len_at_least one two ∙ ap (λ fields. of_backend (asks_as Insert (insert_of fields))) fields in
    (asks_as Insert meaning, means, JoinsLines-insert c.args.number c.args.read.now.lines.items c.insert.new.read.lines.items meaning read.0 read.1 read.2 read.3)
