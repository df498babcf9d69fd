use Rattle.std.proofs.Common.{Some, ap, arith, inl, refl, subst}
use Rattle.embedded_log.specs.Appended.{AnswersAppend}
use Rattle.embedded_log.specs.declared.appending.Appending.{Appending}
use Rattle.embedded_log.specs.declared.appending.Append.{Append}
use Rattle.pgwal_c.specs.declared.said.ProgramSaid.{ProgramSaid}
use Rattle.pgwal_c.proofs.Telling.{append_knows, switch_done, switch_going, switch_refused}
use Rattle.pgwal_c.proofs.session_handle.SessionHandle.switched.Goals as goal

pub returns-in-Reserved : goal.returns-in-Reserved
returns-in-Reserved c = λ body s answers.
    let tells = subst (λ (x : Append ProgramSaid). AnswersAppend body s x) c.in-Reserved.is answers
    in switch_done body s c.in-Reserved.session _ _ refl tells.1 (inl tells.0)

pub returns-in-Going : goal.returns-in-Going
returns-in-Going c = λ body s answers.
    let tells = subst (λ (x : Append ProgramSaid). AnswersAppend body s x) c.in-Going.is answers
    in switch_going body s c.in-Going.going _ _
    (ap (λ (x : Appending ProgramSaid). Some x) c.new_unchecked.ensures) tells

pub returns-in-Refused : goal.returns-in-Refused
returns-in-Refused c = λ body s answers.
    let tells = subst (λ (x : Append ProgramSaid). AnswersAppend body s x) c.in-Refused.is answers
    in switch_refused body s c.in-Refused.session _ _ _ (c.append_answer.ensures.other).0
    (c.append_answer.ensures.other).2
    (λ down. append_knows body s c.in-Refused.session c.in-Refused.why _
    (c.append_answer.ensures.down down) tells.0) refl tells.1

pub returns-in-Down : goal.returns-in-Down
returns-in-Down c = λ body s answers.
    let tells = subst (λ (x : Append ProgramSaid). AnswersAppend body s x) c.in-Down.is answers
    in switch_refused body s c.in-Down.session _ _ 4
    (λ done. let never : ⊥ = omega (arith, done) in never)
    (λ queue. let never : ⊥ = omega (arith, queue) in never) (λ down. tells.1) refl tells.2

pub invariant_of-self-in-Going : goal.invariant_of-self-in-Going
invariant_of-self-in-Going c =
    let going = rw c.in-Going.is at c.requires.2 in (
      c.self.invariant.0,
      (c.requires.0, c.requires.1, rw c.new_unchecked.ensures going),
      c.self.invariant.2,
    )
