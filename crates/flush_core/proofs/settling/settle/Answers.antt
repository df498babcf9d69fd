-- Where it was not planned, no call was made.
use Rattle.segment_disk.proofs.Presence.{on_err}
use Rattle.flush_core.proofs.SettleEnds.{at_once, not_made_on}
use Rattle.flush_core.proofs.settling.settle.Goals as goal

pub returns-in-Err-clause-stopped : goal.returns-in-Err-clause-stopped
returns-in-Err-clause-stopped g c = at_once c.args.geometry c.args.end.0 c.count_segments.ensures.valid _ _ _ _ (g.met.D.Disk.counts c.args.disk.now) c.count_segments.ensures.uncalled

pub returns-in_err-plan-clause-stopped : goal.returns-in_err-plan-clause-stopped
returns-in_err-plan-clause-stopped g c =
    on_err c.from_residual.result _
    (at_once c.args.geometry c.args.end.0 c.count_segments.ensures.valid _ _ _ _ (g.met.D.Disk.counts c.args.disk.now) (not_made_on _ _ _ _ _ _ c.count_segments.ensures.uncalled c.in_err-plan.ensures.uncalled))
