use Rattle.wal_log.proofs.Keeping.{further_pass, same_pass}
use Rattle.log_workers.proofs.worker.work_on.Goals as goal

pub loop-job-init : goal.loop-job-init
loop-job-init g c = (c.requires, same_pass _)

pub loop-job-preserved : goal.loop-job-preserved
loop-job-preserved g c = (
  c.answer.ensures.pass,
  further_pass _ _ _ c.loop-job.invariant.1 c.answer.ensures.keeps,
)
