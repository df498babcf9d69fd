use Rattle.machine_laws.proofs.EveryStep.{run_keeps, step_keeps}
use Rattle.machine_laws.proofs.every_step.every_step_keeps_the_invariant.Goals as goal

pub returns-clause-step : goal.returns-clause-step
returns-clause-step c = step_keeps

pub returns-clause-run : goal.returns-clause-run
returns-clause-run c = λ first opening n s t k run. run_keeps first opening n s t k run
