use Rattle.std.proofs.Common.{arith}
use Rattle.wal_rule.specs.Passes.{view_of_pass}
use Rattle.wal_log.specs.PassLogs.{log_of_pass}
use Rattle.wal_log.proofs.Keeping.{further_pass}
use Rattle.embedded_log.proofs.Promises.{grown_by_promise, stopped_tries, told_tries, tries_since}
use Rattle.embedded_log.proofs.shared.SharedLog.try_flush.Goals as goal

pub returns-then-upto-first-clause-tries : goal.returns-then-upto-first-clause-tries
returns-then-upto-first-clause-tries g c =
    told_tries c.args.upto.0 c.hard-first.result (view_of_pass c.args.pass.now)
    (view_of_pass c.hard-first.new.pass) (omega arith) c.hard-first.ensures.told.log_is

pub returns-then-is_err-clause-tries : goal.returns-then-is_err-clause-tries
returns-then-is_err-clause-tries g c =
    let old = view_of_pass c.args.pass.now in let new = view_of_pass c.hard-first.new.pass in
    stopped_tries c.args.upto.0 _ old new tt
    (grown_by_promise c.hard-first.result (log_of_pass old) (log_of_pass new)
    c.hard-first.ensures.told.log_is)

pub returns-clause-tries : goal.returns-clause-tries
returns-clause-tries g c =
    let old = view_of_pass c.args.pass.now in let mid = view_of_pass c.hard-first.new.pass in
    tries_since c.args.upto.0 c.flush_alone-answer.result old mid
    (view_of_pass c.flush_alone-answer.new.pass) c.hard-first.ensures.leaves.keeps
    (grown_by_promise c.hard-first.result (log_of_pass old) (log_of_pass mid)
    c.hard-first.ensures.told.log_is) c.flush_alone-answer.ensures.tries

pub returns-clause-keeps : goal.returns-clause-keeps
returns-clause-keeps g c =
    further_pass _ _ _ c.hard-first.ensures.leaves.keeps c.flush_alone-answer.ensures.keeps
