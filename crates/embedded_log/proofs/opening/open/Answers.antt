use Rattle.embedded_log.proofs.Reopenings.{says_not_opened}
use Rattle.embedded_log.proofs.Sessions.{opens}
use Rattle.embedded_log.proofs.opening.open.Goals as goal

pub returns-in-Ok-first_session-clause-opened : goal.returns-in-Ok-first_session-clause-opened
returns-in-Ok-first_session-clause-opened g c =
    opens c.args.setup c.in-Ok.disk c.in-Ok-open.wal c.in-Ok-open.pass
    c.in-Ok-first_session.session c.in-Ok.calls c.in-Ok.ensures.disk
    c.in-Ok.ensures.nothing c.in-Ok-open.ensures.opened
    c.in-Ok-first_session.ensures c.in-Ok.ensures.ends

pub returns-in-Err-clause-refused : goal.returns-in-Err-clause-refused
returns-in-Err-clause-refused g c =
    says_not_opened c.args.setup c.in-Ok.disk c.in-Err.fault.disk c.in-Ok.ensures.nothing
    c.in-Err.fault.kind c.in-Err.ensures.refused
