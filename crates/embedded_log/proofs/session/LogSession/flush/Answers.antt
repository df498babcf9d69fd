use Rattle.embedded_log.specs.Promised.{RefusesTry}
use Rattle.embedded_log.specs.Sessions.{view_of_session}
use Rattle.embedded_log.proofs.Promises.{refusal_says, told_as_refusal}
use Rattle.embedded_log.proofs.session.LogSession.flush.Goals as goal

pub returns-in-Err-clause-behind : goal.returns-in-Err-clause-behind
returns-in-Err-clause-behind g c =
    refusal_says c.in-Err.stop c.from.result c.from.ensures _

pub returns-in-Err-clause-refused : goal.returns-in-Err-clause-refused
returns-in-Err-clause-refused g c =
    let old = view_of_session c.args.self.now in
    let new = view_of_session c.promise_upto.new.self in
    told_as_refusal (λ t. RefusesTry c.args.upto.0 old new t) c.in-Err.stop c.from.result
    c.from.ensures c.in-Err.ensures.told
