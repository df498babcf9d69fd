use Rattle.wal_log.proofs.AwaitLaws.{sees_as_before, sees_further}
use Rattle.wal_log.proofs.flushing.gather.Goals as goal

pub loop-look-init : goal.loop-look-init
loop-look-init g c = sees_further c.args.seated.now c.args.seated.now c.see_reserved-end.new.seated
    (sees_as_before c.args.seated.now) c.see_reserved-end.ensures.rises
    c.see_reserved-end.ensures.view

pub loop-look-preserved : goal.loop-look-preserved
loop-look-preserved g c =
    sees_further c.args.seated.now c.loop-look.seated c.see_reserved-seen.new.seated
    c.loop-look.invariant c.see_reserved-seen.ensures.rises c.see_reserved-seen.ensures.view
