use Rattle.std.proofs.Common.{◌∙◌, refl, sym}
use Rattle.pgwal_c.proofs.Telling.{append_told, lost_told, refusal_told}
use Rattle.pgwal_c.proofs.session_handle.SessionHandle.append_body.Goals as goal

pub returns-in-Reserved-clause-tells : goal.returns-in-Reserved-clause-tells
returns-in-Reserved-clause-tells c =
    append_told _ _ c.self.inside.session c.in-Some.session (sym c.take.ensures.value ∙ c.in-Some.is)
    c.args.self.now c.self.view_is c.args.body.now c.self.invariant.0 c.in-Reserved.session
    c.args.call.now _ c.in-Reserved.ensures.0 c.in-Reserved.ensures.1

pub returns-in-Refused-clause-tells : goal.returns-in-Refused-clause-tells
returns-in-Refused-clause-tells c =
    refusal_told _ _ c.self.inside.session c.in-Some.session (sym c.take.ensures.value ∙ c.in-Some.is)
    c.args.self.now c.self.view_is c.args.body.now c.self.invariant.0 c.in-Refused.session
    c.args.call.now c.append_answer.new.call c.append_answer.result c.in-Refused.why
    c.in-Refused.ensures.0 c.in-Refused.ensures.1 ((c.append_answer.ensures.other).0, (c.append_answer.ensures.other).1)
    c.append_answer.ensures.full c.append_answer.ensures.down c.append_answer.ensures.start

pub returns-in-Down-clause-tells : goal.returns-in-Down-clause-tells
returns-in-Down-clause-tells c =
    lost_told _ _ c.self.inside.session c.in-Some.session (sym c.take.ensures.value ∙ c.in-Some.is)
    c.args.self.now c.self.view_is c.args.body.now c.in-Down.session c.args.call.now _
    c.in-Down.ensures.1 c.in-Down.ensures.2 refl
