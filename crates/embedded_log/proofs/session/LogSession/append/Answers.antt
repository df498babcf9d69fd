use Rattle.embedded_log.proofs.Sessions.{begun_session, refused_session}
use Rattle.embedded_log.proofs.session.LogSession.append.Goals as goal

pub go_on-requires : goal.go_on-requires
go_on-requires g c =
    let begun = begun_session c.args.self c.deref.result.now c.deref.ensures c.args.body.now
    c.requires.kept c.in-Ok.flight c.in-Ok.ensures.begins in
    begun.kept

pub returns-in-Ok : goal.returns-in-Ok
returns-in-Ok g c =
    c.go_on.ensures c.args.body.now c.args.self
    (begun_session c.args.self c.deref.result.now c.deref.ensures c.args.body.now c.requires.kept
    c.in-Ok.flight c.in-Ok.ensures.begins)

pub returns-in-Err : goal.returns-in-Err
returns-in-Err g c =
    refused_session c.args.self c.deref.result.now c.deref.ensures c.args.body.now c.requires.kept
    c.in-Err.why c.in-Err.pass c.in-Err.ensures.begins
