use Rattle.machine_laws.proofs.SoundLockSteps.{locks_behind}
use Rattle.machine_laws.proofs.lock_steps.sound_states_keep_locks_and_turns.Goals as goal

pub returns : goal.returns
returns c = λ first opening words home views id v e k here live may.
    locks_behind opening words home views k id v here live e may
