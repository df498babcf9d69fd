use Rattle.machine_laws.proofs.SoundDurableSteps.{durable-inside, durable-reserved}
use Rattle.machine_laws.proofs.durable_states.steps_leave_a_sound_log_durable.Goals as goal

pub returns-clause-inside : goal.returns-clause-inside
returns-clause-inside c = λ first words home views id v s here.
    durable-inside words home views id v s here

pub returns-clause-store_position : goal.returns-clause-store_position
returns-clause-store_position c = λ first words home views id v s here.
    durable-reserved words home views id v s here
