use Rattle.embedded_log.proofs.Sessions.{stayed_session, switch_session, unswitched_session}
use Rattle.embedded_log.proofs.session.LogSession.switch.Goals as goal

pub go_on-requires : goal.go_on-requires
go_on-requires g c =
    let begun = switch_session c.args.self c.deref.result.now c.deref.ensures c.args.body.now
    c.requires.kept c.in-Ok-Going.flight
    (rw c.in-Ok-Going.field-0-is at c.in-Ok-Going.ensures.tries) in
    begun.kept

pub returns-in-Ok-Going : goal.returns-in-Ok-Going
returns-in-Ok-Going g c =
    c.go_on.ensures c.args.body.now c.args.self
    (switch_session c.args.self c.deref.result.now c.deref.ensures c.args.body.now c.requires.kept
    c.in-Ok-Going.flight (rw c.in-Ok-Going.field-0-is at c.in-Ok-Going.ensures.tries))

pub returns-in-Ok-Stayed : goal.returns-in-Ok-Stayed
returns-in-Ok-Stayed g c =
    stayed_session c.args.self c.deref.result.now c.deref.ensures c.args.body.now c.requires.kept
    c.in-Ok-Stayed.end c.in-Ok-Stayed.pass
    (rw c.in-Ok-Stayed.field-0-is at c.in-Ok-Stayed.ensures.tries)

pub returns-in-Err : goal.returns-in-Err
returns-in-Err g c =
    unswitched_session c.args.self c.deref.result.now c.deref.ensures c.args.body.now
    c.requires.kept c.in-Err.why c.in-Err.pass c.in-Err.ensures.tries
