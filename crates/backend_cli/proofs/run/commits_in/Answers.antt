-- An answer is counted where it says that a commit is durable.
use Rattle.std.proofs.Common.{◌∙◌, ap, arith, if◌then◌else◌, sym, take}
use Rattle.std.proofs.lemmas.List.{length-take}
use Rattle.run_laws.specs.Counts.{is_hard}
use Rattle.run_laws.proofs.AnswerCounts.{commits_of-le}
use Rattle.run_laws.proofs.AnswerLoops.{commits_of_step}
use Rattle.backend_cli.proofs.run.commits_in.Goals.{then-is_hard, else-is_hard}
use Rattle.backend_cli.proofs.run.commits_in.Goals as goal

pub overflow_add-count : goal.overflow_add-count
overflow_add-count c =
    let front = take c.loop-answer.answer-index c.args.told.now in
    omega (arith, c.loop-answer.invariant, commits_of-le front, length-take c.loop-answer.answer-index c.args.told.now, c.loop-answer-test.true, c.loop-answer.auto.answer-index-end)

pub loop-answer-preserved : goal.loop-answer-preserved
loop-answer-preserved c =
    let told = c.args.told.now in
    let i = c.loop-answer.answer-index in
    let item = c.answer-item.result in
    let hard = c.is_hard.ensures ∙ ap is_hard c.answer-item.is in
    elim c.if-is_hard.branch [
      | then-is_hard w ↦
          commits_of_step told i c.loop-answer.count c.if-is_hard.count 1 item c.loop-answer-test.true c.loop-answer.invariant (ap (λ b. if b then 1 else 0) (sym w.if-is_hard.true) ∙ hard) w.count-is
      | else-is_hard w ↦
          commits_of_step told i c.loop-answer.count c.if-is_hard.count 0 item c.loop-answer-test.true c.loop-answer.invariant (ap (λ b. if b then 1 else 0) (sym w.if-is_hard.false) ∙ hard) (omega (arith, w.count-is))
    ]
