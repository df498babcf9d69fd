use Rattle.std.proofs.Common.{rules}
use Rattle.std.proofs.lemmas.List.{length_push}
use Rattle.std.proofs.lemmas.Result.{err_from_is_err_and}
use Rattle.waldump_text.proofs.SinkLaws.{HasPut-more, Puts-failed}
use Rattle.backend_cli.proofs.ToldLines.{told_lines-next}
use Rattle.backend_cli.proofs.printing.put_told_lines.Goals as goal

pub loop-line-preserved : goal.loop-line-preserved
loop-line-preserved g c =
    let took = c.in_ok-put_told.ensures in
    let split = told_lines-next c.args.backend c.args.lines.now c.args.told.now c.loop-line.yielded c.into_iter-line-iterator.result c.loop-line.line-iterator c.next.new.self c.next.result (search rules) (search rules) c.loop-line.yielded_by (c.in-Some.line, c.in-Some.answer) c.in-Some.is c.next.ensures.steps in
    rw (length_push c.loop-line.yielded (c.in-Some.line, c.in-Some.answer)) (HasPut-more _ _ c.loop-line.invariant split took.0 took.1)

pub returns-in_err-put_told : goal.returns-in_err-put_told
returns-in_err-put_told g c =
    let p = err_from_is_err_and c.from_residual.result c.from_residual.ensures.1 in
    let split = told_lines-next c.args.backend c.args.lines.now c.args.told.now c.loop-line.yielded c.into_iter-line-iterator.result c.loop-line.line-iterator c.next.new.self c.next.result (search rules) (search rules) c.loop-line.yielded_by (c.in-Some.line, c.in-Some.answer) c.in-Some.is c.next.ensures.steps in
    rw (p.1, p.2) (Puts-failed _ _ _ c.loop-line.invariant split c.in_err-put_told.ensures)
