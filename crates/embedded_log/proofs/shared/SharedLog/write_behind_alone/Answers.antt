use Rattle.std.specs.Prelude.{Ok}
use Rattle.wal_rule.specs.Passes.{view_of_pass}
use Rattle.wal_log.specs.Behind.{TellsBehindTry}
use Rattle.wal_log_laws.proofs.Grown.{behind_try_grows}
use Rattle.embedded_log.proofs.Promises.{told_as_stop}
use Rattle.embedded_log.proofs.shared.SharedLog.write_behind_alone.Goals as goal

pub returns-in-Ok-clause-grows : goal.returns-in-Ok-clause-grows
returns-in-Ok-clause-grows g c =
    behind_try_grows (view_of_pass c.args.pass.now) (view_of_pass c.try_write_behind.new.pass)
    (Ok c.in-Ok.caught) c.in-Ok.ensures.catches

pub returns-in-Err-clause-refused : goal.returns-in-Err-clause-refused
returns-in-Err-clause-refused g c =
    let old = view_of_pass c.args.pass.now in let new = view_of_pass c.try_write_behind.new.pass in
    told_as_stop (λ t. TellsBehindTry old new t) c.in-Err.e c.from.result c.from.ensures
    c.in-Err.ensures.catches.0
