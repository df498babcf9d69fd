use Rattle.machine_laws.proofs.TurnSteps.{turns_behind}
use Rattle.machine_laws.proofs.lock_steps.every_step_keeps_the_turns.Goals as goal

pub returns : goal.returns
returns c = λ setup words home stage writer views id v e here wide held may k.
    turns_behind setup words home stage writer views id v here wide held k e may
