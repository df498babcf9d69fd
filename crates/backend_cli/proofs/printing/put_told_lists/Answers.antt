use Rattle.std.proofs.lemmas.Result.{err_from_is_err_and}
use Rattle.waldump_text.proofs.SinkLaws.{HasPut-more, Puts-failed}
use Rattle.backend_cli.proofs.ToldLines.{told_lines_upward-drop}
use Rattle.backend_cli.proofs.printing.put_told_lists.Goals as goal

pub loop-number-preserved : goal.loop-number-preserved
loop-number-preserved g c =
    let took = c.in_ok-put_told_lines.ensures in
    let split = told_lines_upward-drop c.args.backends.now c.loop-number.number c.index-backends-number.result c.deref.result.now c.deref-in-loop-number.result.now c.loop-number-test.true c.index-backends-number.is c.deref.ensures.value c.deref-in-loop-number.ensures.value in
    HasPut-more _ _ c.loop-number.invariant split took.0 took.1

pub returns-in_err-put_told_lines : goal.returns-in_err-put_told_lines
returns-in_err-put_told_lines g c =
    let p = err_from_is_err_and c.from_residual.result c.from_residual.ensures.1 in
    let split = told_lines_upward-drop c.args.backends.now c.loop-number.number c.index-backends-number.result c.deref.result.now c.deref-in-loop-number.result.now c.loop-number-test.true c.index-backends-number.is c.deref.ensures.value c.deref-in-loop-number.ensures.value in
    rw (p.1, p.2) (Puts-failed _ _ _ c.loop-number.invariant split c.in_err-put_told_lines.ensures)
