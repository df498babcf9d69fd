use Rattle.embedded_log.specs.Sessions.{wal_of_session}
use Rattle.embedded_log.proofs.Ends.{end_is_reserved}
use Rattle.embedded_log.proofs.session.LogSession.raise_async.Goals as goal

pub try_raise_async-requires-clause-reserved : goal.try_raise_async-requires-clause-reserved
try_raise_async-requires-clause-reserved g c =
    let s = c.args.self.now in
    let seen = rw c.in-Some.is at c.requires.appended in
    rw c.deref.ensures
    (end_is_reserved (wal_of_session s) s.pass c.requires.pass c.in-Some.end.0 seen)
