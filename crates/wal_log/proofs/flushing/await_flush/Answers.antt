use Rattle.wal_log.proofs.AwaitLaws.{HasLooked, looked_at_flushed, looked_never}
use Rattle.wal_log.proofs.flushing.await_flush.Given.{Over}
use Rattle.wal_log.proofs.flushing.await_flush.Goals as goal
use Rattle.wal_log.proofs.flushing.await_flush.Goals.{After-load_flushed-flushed}

pub loop-look-init : goal.loop-look-init
loop-look-init g c = looked_never c.args.seated.now c.requires.up

looked : (g : Over) (c : After-load_flushed-flushed g)
    → HasLooked c.args.seated.now c.load_flushed-flushed.new.self
looked g c = looked_at_flushed c.args.seated.now c.loop-look.seated c.load_flushed-flushed.new.self
    c.load_flushed-flushed.result c.loop-look.invariant c.load_flushed-flushed.ensures.steps

pub returns-then-flushed-known-clause-stays : goal.returns-then-flushed-known-clause-stays
returns-then-flushed-known-clause-stays g c = (looked g
    (goal.at.returns-then-flushed-known-clause-stays g c).After-load_flushed-flushed).stays

pub loop-look-preserved : goal.loop-look-preserved
loop-look-preserved g c =
    looked g (goal.at.loop-look-preserved g c).After-load_flushed-flushed
