use Rattle.machine_laws.proofs.SoundDurableSteps.{durable-given_up, durable-split, durable-taken_in}
use Rattle.machine_laws.proofs.durable_states.passes_leave_a_sound_log_durable.Goals as goal

pub returns-clause-split : goal.returns-clause-split
returns-clause-split c = λ first words home views id v s here. durable-split words home views id v s here

pub returns-clause-join : goal.returns-clause-join
returns-clause-join c = λ first words home views id v s here.
    durable-taken_in words home views id v s here

pub returns-clause-give_up : goal.returns-clause-give_up
returns-clause-give_up c = λ first words home views id v s here.
    durable-given_up words home views id v s here
