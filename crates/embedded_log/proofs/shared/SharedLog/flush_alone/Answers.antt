use Rattle.wal_rule.specs.Passes.{view_of_pass}
use Rattle.embedded_log.proofs.Promises.{refused_tries, told_tries}
use Rattle.embedded_log.proofs.shared.SharedLog.flush_alone.Goals as goal

pub returns-in-Ok-clause-tries : goal.returns-in-Ok-clause-tries
returns-in-Ok-clause-tries g c =
    let told = c.in-Ok.ensures.tries.0 in
    told_tries c.args.upto.0 c.in-Ok.hard (view_of_pass c.args.pass.now)
    (view_of_pass c.try_flush.new.pass) told.reached told.log_is

pub returns-in-Err-clause-tries : goal.returns-in-Err-clause-tries
returns-in-Err-clause-tries g c =
    let tries = c.in-Err.ensures.tries in
    refused_tries c.args.upto.0 c.in-Err.e c.from.result (view_of_pass c.args.pass.now)
    (view_of_pass c.try_flush.new.pass) c.from.ensures tries.0 tries.1
