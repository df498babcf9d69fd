use Rattle.wal_log.proofs.AwaitLaws.{sees_as_before, sees_on}
use Rattle.wal_log.proofs.inserting.await_position.Goals as goal

pub loop-look-init : goal.loop-look-init
loop-look-init g c = sees_as_before c.args.seated.now

pub loop-look-preserved : goal.loop-look-preserved
loop-look-preserved g c =
    sees_on c.args.seated.now c.loop-look.seated c.load_position.new.self c.load_position.result
    c.loop-look.invariant c.load_position.ensures.steps
