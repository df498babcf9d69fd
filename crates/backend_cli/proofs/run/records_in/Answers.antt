-- An answer is counted where it reserved a record.
use Rattle.std.proofs.Common.{take, ap, sym, ◌∙◌, arith}
use Rattle.std.proofs.lemmas.List.{length-take}
use Rattle.std.specs.Option.{is_some}
use Rattle.run_laws.specs.declared.told.Told.{Told}
use Rattle.run_laws.specs.Told.{reserved_by}
use Rattle.run_laws.proofs.AnswerCounts.{reserved_count-le}
use Rattle.run_laws.proofs.AnswerLoops.{reserved_count_more, reserved_count_same}
use Rattle.backend_cli.proofs.run.records_in.Goals.{then-is_some, else-is_some}
use Rattle.backend_cli.proofs.run.records_in.Goals as goal

pub overflow_add-count : goal.overflow_add-count
overflow_add-count c =
    let front = take c.loop-answer.answer-index c.args.told.now in
    omega (arith, c.loop-answer.invariant, reserved_count-le front, length-take c.loop-answer.answer-index c.args.told.now, c.loop-answer-test.true, c.loop-answer.auto.answer-index-end)

pub loop-answer-preserved : goal.loop-answer-preserved
loop-answer-preserved c =
    let told = c.args.told.now in
    let i = c.loop-answer.answer-index in
    let item = c.answer-item.result in
    let is = ap (λ (answer : Told). is_some (reserved_by answer)) (sym c.answer-item.is)
    ∙ sym (ap is_some c.reserved.ensures) ∙ sym c.is_some.ensures in
    elim c.if-is_some.branch [
      | then-is_some w ↦ w.count-is ∙ sym (reserved_count_more told i c.loop-answer.count item c.loop-answer-test.true c.loop-answer.invariant (is ∙ w.if-is_some.true))
      | else-is_some w ↦ w.count-is ∙ sym (reserved_count_same told i c.loop-answer.count item c.loop-answer-test.true c.loop-answer.invariant (is ∙ w.if-is_some.false))
    ]
