use Rattle.embedded_log.specs.Appended.{AnswersAppend}
use Rattle.pgwal_c.proofs.appending.append_whole.Given as goal

abbrev pub invariant-loop : goal.invariant-loop
invariant-loop l = AnswersAppend l.body l.fn.session l.answer
