use Rattle.machine_laws.proofs.PageSteps as step
use Rattle.machine_laws.proofs.ring_steps.stores_leave_pages_in_order.Goals as goal

pub returns-clause-word : goal.returns-clause-word
returns-clause-word c = λ first. step.pages_behind-stored

pub returns-clause-written : goal.returns-clause-written
returns-clause-written c = λ first. step.pages_behind-written
