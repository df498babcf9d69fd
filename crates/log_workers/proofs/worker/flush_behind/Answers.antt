use Rattle.wal_log.proofs.Keeping.{further_pass}
use Rattle.log_workers.proofs.worker.flush_behind.Goals as goal

pub loop-preserved-in-Flushed-1 : goal.loop-preserved-in-Flushed-1
loop-preserved-in-Flushed-1 g c = record {
  goes_on = (tt, tt);
  pass = c.write_behind-told.ensures.leaves.pass;
  keeps = further_pass _ _ _ c.loop.invariant.keeps c.write_behind-told.ensures.leaves.keeps;
}

pub loop-preserved : goal.loop-preserved
loop-preserved g c = record {
  goes_on = (tt, tt);
  pass = c.write_behind-told.ensures.leaves.pass;
  keeps = further_pass _ _ _ c.loop.invariant.keeps c.write_behind-told.ensures.leaves.keeps;
}

pub returns-in_default-clause-keeps : goal.returns-in_default-clause-keeps
returns-in_default-clause-keeps g c =
    further_pass _ _ _ c.loop.invariant.keeps c.write_behind-told.ensures.leaves.keeps
