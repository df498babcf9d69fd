use Rattle.wal_rule.specs.Passes.{view_of_pass}
use Rattle.wal_log.specs.Behind.{TellsBehindTry}
use Rattle.embedded_log.specs.Sessions.{view_of_session}
use Rattle.embedded_log.proofs.Promises.{behind_promised, behind_told, held_tells, refusal_says, told_as_refusal}
use Rattle.embedded_log.proofs.Sessions.{behind_open, grown_open}
use Rattle.embedded_log.proofs.session.LogSession.write_behind.Goals as goal

pub tell-requires-clause-promised : goal.tell-requires-clause-promised
tell-requires-clause-promised g c =
    let told = rw c.in-Ok-Flushed.field-0-is at c.in-Ok-Flushed.ensures.catches in
    behind_promised c.in-Ok-Flushed.hard (view_of_session c.args.self.now)
    (view_of_pass c.try_write_behind.new.pass) told

pub returns-in-Ok-clause-told : goal.returns-in-Ok-clause-told
returns-in-Ok-clause-told g c =
    let told = rw c.in-Ok-Flushed.field-0-is at c.in-Ok-Flushed.ensures.catches in
    behind_told c.in-Ok-Flushed.hard (view_of_session c.args.self.now)
    (view_of_pass c.try_write_behind.new.pass) told g.H.Rule.invariant c.in-Ok.told
    c.in-Ok.ensures.told

pub returns-in-Ok-clause-goes_on : goal.returns-in-Ok-clause-goes_on
returns-in-Ok-clause-goes_on g c =
    let told = rw c.in-Ok-Flushed.field-0-is at c.in-Ok-Flushed.ensures.catches in
    let pass = rw c.deref.ensures at c.try_write_behind.ensures.pass in
    behind_open c.args.self.now c.try_write_behind.new.pass c.in-Ok-Flushed.hard c.requires pass
    c.try_write_behind.ensures.keeps c.try_write_behind.ensures.grows told

pub returns-in-Err-tell-clause-goes_on : goal.returns-in-Err-tell-clause-goes_on
returns-in-Err-tell-clause-goes_on g c =
    let told = rw c.in-Ok-Flushed.field-0-is at c.in-Ok-Flushed.ensures.catches in
    let pass = rw c.deref.ensures at c.try_write_behind.ensures.pass in
    behind_open c.args.self.now c.try_write_behind.new.pass c.in-Ok-Flushed.hard c.requires pass
    c.try_write_behind.ensures.keeps c.try_write_behind.ensures.grows told

pub returns-in-Ok-Idle-clause-goes_on : goal.returns-in-Ok-Idle-clause-goes_on
returns-in-Ok-Idle-clause-goes_on g c =
    let pass = rw c.deref.ensures at c.try_write_behind.ensures.pass in
    grown_open c.args.self.now c.try_write_behind.new.pass c.requires pass
    c.try_write_behind.ensures.keeps c.try_write_behind.ensures.grows

pub returns-in-Err-tell-clause-refused : goal.returns-in-Err-tell-clause-refused
returns-in-Err-tell-clause-refused g c =
    let old = view_of_session c.args.self.now in
    let new = view_of_pass c.try_write_behind.new.pass in
    held_tells (λ t. TellsBehindTry old new t) c.in-Err-tell.e c.in-Err-tell.ensures.held

pub returns-in-Err-clause-goes_on : goal.returns-in-Err-clause-goes_on
returns-in-Err-clause-goes_on g c =
    let pass = rw c.deref.ensures at c.try_write_behind.ensures.pass in
    grown_open c.args.self.now c.try_write_behind.new.pass c.requires pass
    c.try_write_behind.ensures.keeps c.try_write_behind.ensures.grows

pub returns-in-Err-clause-behind : goal.returns-in-Err-clause-behind
returns-in-Err-clause-behind g c =
    refusal_says c.in-Err.stop c.from.result c.from.ensures _

pub returns-in-Err-clause-refused : goal.returns-in-Err-clause-refused
returns-in-Err-clause-refused g c =
    let old = view_of_session c.args.self.now in
    let new = view_of_pass c.try_write_behind.new.pass in
    told_as_refusal (λ t. TellsBehindTry old new t) c.in-Err.stop c.from.result c.from.ensures
    c.in-Err.ensures.refused
