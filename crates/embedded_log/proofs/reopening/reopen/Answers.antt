use Rattle.std.proofs.Common.{sym, subst}
use Rattle.rtrb.specs.Ring.{IsPair}
use Rattle.embedded_log.proofs.Reopenings.{says_stop}
use Rattle.embedded_log.proofs.Sessions.{reopens}
use Rattle.embedded_log.proofs.reopening.reopen.Goals as goal

pub returns-in-Ok-first_session-clause-reopened : goal.returns-in-Ok-first_session-clause-reopened
returns-in-Ok-first_session-clause-reopened g c =
    reopens c.args.setup g.L.HostDisk.segments c.args.pages.items c.over_pages.result
    c.in-Ok-reopen.wal c.in-Ok-reopen.pass c.in-Ok-reopen.found c.in-Ok-first_session.session
    c.in-Ok.calls c.over_pages.ensures.uncalled c.over_pages.ensures.tells
    c.in-Ok-reopen.ensures.reopened c.in-Ok-first_session.ensures
    (subst (λ q. IsPair q c.in-Ok.calls.queue) (sym c.over_pages.ensures.queue) c.in-Ok.ensures.ends)

pub returns-in-Err-clause-refused : goal.returns-in-Err-clause-refused
returns-in-Err-clause-refused g c =
    says_stop c.args.setup g.L.HostDisk.segments c.args.pages.items c.over_pages.result
    c.in-Err.fault.disk c.over_pages.ensures.tells c.in-Err.fault.kind c.refusal_of.result.why
    c.in-Err.ensures.refused c.refusal_of.ensures
