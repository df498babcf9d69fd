use Rattle.machine_laws.proofs.SoundDurableSteps.{durable-create, durable-sync, durable-write}
use Rattle.machine_laws.proofs.durable_states.calls_leave_a_sound_log_durable.Goals as goal

pub returns-clause-create : goal.returns-clause-create
returns-clause-create c = λ first words home views id v s here.
    durable-create words home views id v s here

pub returns-clause-write : goal.returns-clause-write
returns-clause-write c = λ first words home views id v s here. durable-write words home views id v s here

pub returns-clause-sync : goal.returns-clause-sync
returns-clause-sync c = λ first words home views id v s here. durable-sync words home views id v s here
