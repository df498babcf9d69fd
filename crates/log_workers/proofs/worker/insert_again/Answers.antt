use Rattle.wal_log.proofs.Keeping.{further_pass, same_pass}
use Rattle.log_workers.proofs.worker.insert_again.Goals as goal

pub loop-again-init : goal.loop-again-init
loop-again-init g c = (c.requires, same_pass _)

pub loop-again-preserved : goal.loop-again-preserved
loop-again-preserved g c = (
  c.insert-told.ensures.leaves.pass,
  further_pass _ _ _ c.loop-again.invariant.1 c.insert-told.ensures.leaves.keeps,
)

pub returns-then-is_err-clause-keeps : goal.returns-then-is_err-clause-keeps
returns-then-is_err-clause-keeps g c =
    further_pass _ _ _ c.loop-again.invariant.1 c.insert-told.ensures.leaves.keeps

pub returns-clause-keeps : goal.returns-clause-keeps
returns-clause-keeps g c =
    further_pass _ _ _ c.loop-again.invariant.1 c.insert.ensures.leaves.keeps
