use Rattle.machine_laws.proofs.PageSteps as step
use Rattle.machine_laws.proofs.ring_steps.loads_leave_pages_in_order.Goals as goal

pub returns-clause-end : goal.returns-clause-end
returns-clause-end c = λ first. step.pages_behind-end

pub returns-clause-initialised : goal.returns-clause-initialised
returns-clause-initialised c = λ first. step.pages_behind-initialised

pub returns-clause-looked : goal.returns-clause-looked
returns-clause-looked c = λ first. step.pages_behind-looked

pub returns-clause-written : goal.returns-clause-written
returns-clause-written c = λ first. step.pages_behind-written_loaded

pub returns-clause-ready : goal.returns-clause-ready
returns-clause-ready c = λ first. step.pages_behind-ready

pub returns-clause-word : goal.returns-clause-word
returns-clause-word c = λ first. step.staged_behind
