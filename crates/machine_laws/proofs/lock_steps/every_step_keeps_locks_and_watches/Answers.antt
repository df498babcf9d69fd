use Rattle.machine_laws.proofs.WorkSteps.{works_behind}
use Rattle.machine_laws.proofs.lock_steps.every_step_keeps_locks_and_watches.Goals as goal

pub returns : goal.returns
returns c = λ opening order words home views id v e s may k.
    works_behind opening order words home views id v s k e may
