use Rattle.std.proofs.Common.{ap}
use Rattle.wal_log.specs.declared.in_flight.Inflight.{Inflight}
use Rattle.embedded_log.proofs.Sessions.{given_up_session, still_going}
use Rattle.embedded_log.proofs.appending.Appending.stopped.Goals as goal

pub returns-in-Ok : goal.returns-in-Ok
returns-in-Ok g c = λ body old going.
    let up = rw c.deref.ensures at c.in-Ok.ensures.gives_up in
    given_up_session body old c.args.self going c.in-Ok.pass up.pass_is up.keeps
    up.faults up.down

pub returns-in-Err : goal.returns-in-Err
returns-in-Err g c = λ body old going.
    let back = rw c.deref.ensures at c.in-Err.ensures.gives_up in
    let helper = rw c.deref-in-Err.ensures at c.make_way.ensures.pass in
    still_going body old c.args.self going c.in-Err.flight c.make_way.new.helper back.flight_is
    helper c.make_way.ensures.keeps (ap (λ (f : Inflight). (f.begun).start) back.same)
    (ap (λ (f : Inflight). (f.begun).end) back.same) back.entry back.keeps
