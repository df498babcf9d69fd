use Rattle.std.proofs.Common.{◌-◌, ◌+◌, ◌++◌, arith}
use Rattle.std.proofs.lemmas.Result.{err_from_is_err_and}
use Rattle.waldump_text.specs.Statistics.{manager_lines, total_line}
use Rattle.waldump_text.specs.Tally.{own_sums}
use Rattle.waldump_text.proofs.SinkLaws.{HasPut-more, Puts-failed, Puts-last}
use Rattle.waldump_text.proofs.StatisticsLaws.{rest-of_managers, rest-of_total}
use Rattle.waldump_text.proofs.statistics.put_tally.Goals as goal

pub returns-in_err-put_manager : goal.returns-in_err-put_manager
returns-in_err-put_manager g c =
    let own = own_sums c.args.tally.now in
    let p = err_from_is_err_and c.from_residual.result c.from_residual.ensures.1 in
    let i = c.loop-rmid.rmid in
    rw (p.1, p.2) (Puts-failed _ (manager_lines own (256 - (i + 1)) (i + 1) ++ total_line c.args.tally.now.all) _ c.loop-rmid.invariant (rest-of_managers own c.args.tally.now.all i (omega arith)) c.in_err-put_manager.ensures)

pub loop-rmid-preserved : goal.loop-rmid-preserved
loop-rmid-preserved g c =
    let own = own_sums c.args.tally.now in
    let took = c.in_ok-put_manager.ensures in
    let i = c.loop-rmid.rmid in
    HasPut-more _ _ c.loop-rmid.invariant (rest-of_managers own c.args.tally.now.all i (omega arith)) took.0 took.1

pub returns : goal.returns
returns g c =
    Puts-last _ _ (total_line c.args.tally.now.all) c.put_total.result c.loop-rmid.invariant (rest-of_total (own_sums c.args.tally.now) c.args.tally.now.all c.loop-rmid.rmid (omega arith)) c.put_total.ensures
