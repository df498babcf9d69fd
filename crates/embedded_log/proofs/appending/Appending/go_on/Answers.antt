use Rattle.std.proofs.Common.{ap, sym, subst}
use Rattle.wal_log.specs.declared.in_flight.Inflight.{Inflight}
use Rattle.wal_log.proofs.Keeping.{same_pass}
use Rattle.wal_rule.specs.Passes.{view_of_pass}
use Rattle.embedded_log.specs.Appended.{IsGoing}
use Rattle.embedded_log.proofs.Sessions.{finished_session, going_by, still_going}
use Rattle.embedded_log.proofs.appending.Appending.go_on.Goals as goal

pub returns-in-Ok : goal.returns-in-Ok
returns-in-Ok g c = λ body old going.
    let next = c.copy-copied.new.self in
    let flight = rw c.deref.ensures at c.copy-copied.ensures.flight in
    let stays = c.copy-copied.ensures.stays in
    let done = rw c.deref-2.ensures at c.in-Ok.ensures.finishes in
    let on = still_going body old c.args.self going next c.args.self.helper flight
    c.requires.helper (same_pass (view_of_pass c.args.self.helper))
    (ap (λ (f : Inflight). (f.begun).start) stays.same)
    (ap (λ (f : Inflight). (f.begun).end) stays.same)
    stays.entry stays.pass in
    finished_session body old (going_by c.args.self next c.args.self.helper) on
    c.deref-2.result.now.wal c.in-Ok.receipt c.in-Ok.pass done.pass_is c.in-Ok.ensures.finishes

pub returns-in-Err : goal.returns-in-Err
returns-in-Err g c = λ body old going.
    let next = c.copy-copied.new.self in
    let flight = rw c.deref.ensures at c.copy-copied.ensures.flight in
    let stays = c.copy-copied.ensures.stays in
    let on = still_going body old c.args.self going next c.args.self.helper flight
    c.requires.helper (same_pass (view_of_pass c.args.self.helper))
    (ap (λ (f : Inflight). (f.begun).start) stays.same)
    (ap (λ (f : Inflight). (f.begun).end) stays.same)
    stays.entry stays.pass in
    c.stopped.ensures body old
    (subst (λ (f : Inflight). IsGoing body old (going_by c.args.self f c.args.self.helper))
    (sym c.in-Err.ensures.finishes.0) on)
