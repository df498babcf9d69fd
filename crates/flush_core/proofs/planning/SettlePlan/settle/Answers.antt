-- What is planned is what settles the log.
use Rattle.flush_core.proofs.SettleEnds.{has, has_not, makes_as_planned, on_err_then, on_ok_then, planned_as, stops_as_planned}
use Rattle.flush_core.proofs.planning.SettlePlan.settle.Goals as goal

pub returns-clause-settled : goal.returns-clause-settled
returns-clause-settled g c = λ size end count plan.
    let own = planned_as size end count _ _ _ _ c.deref.result.now _ c.deref-2.result.now plan.geometry_is plan.count_is c.deref.ensures.value c.deref-2.ensures.value plan.planned in
    on_ok_then c.settle_planned.result _ _
    (λ made. has size end plan.valid _ _ _ _ (g.met.D.Disk.counts c.args.disk.now) count plan.planned.there (makes_as_planned _ _ _ _ size end count _ _ plan.geometry_is plan.count_is made))
    (c.settle_planned.ensures.ok end own)

pub returns-clause-stopped : goal.returns-clause-stopped
returns-clause-stopped g c = λ size end count plan.
    let own = planned_as size end count _ _ _ _ c.deref.result.now _ c.deref-2.result.now plan.geometry_is plan.count_is c.deref.ensures.value c.deref-2.ensures.value plan.planned in
    on_err_then c.settle_planned.result _ _
    (λ stops. has_not size end plan.valid _ _ _ _ (g.met.D.Disk.counts c.args.disk.now) count plan.planned.there (stops_as_planned _ _ _ _ size end count _ _ plan.geometry_is plan.count_is stops))
    (c.settle_planned.ensures.err end own)
