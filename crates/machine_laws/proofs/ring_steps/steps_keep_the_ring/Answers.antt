use Rattle.machine_laws.proofs.RingSteps as step
use Rattle.machine_laws.proofs.ring_steps.steps_keep_the_ring.Goals as goal

pub returns-clause-reserved : goal.returns-clause-reserved
returns-clause-reserved c = λ first. step.ring_behind-reserved

pub returns-clause-stored : goal.returns-clause-stored
returns-clause-stored c = λ first. step.ring_behind-stored

pub returns-clause-released : goal.returns-clause-released
returns-clause-released c = λ first. step.ring_behind-released

pub returns-clause-published : goal.returns-clause-published
returns-clause-published c = λ first. step.ring_behind-published
