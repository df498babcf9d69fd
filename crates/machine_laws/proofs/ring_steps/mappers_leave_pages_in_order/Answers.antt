use Rattle.machine_laws.proofs.PageSteps as step
use Rattle.machine_laws.proofs.ring_steps.mappers_leave_pages_in_order.Goals as goal

pub returns-clause-taken : goal.returns-clause-taken
returns-clause-taken c = λ first. step.pages_behind-taken

pub returns-clause-given_back : goal.returns-clause-given_back
returns-clause-given_back c = λ first. step.pages_behind-given_back

pub returns-clause-cleared : goal.returns-clause-cleared
returns-clause-cleared c = λ first. step.pages_behind-cleared

pub returns-clause-zeroed : goal.returns-clause-zeroed
returns-clause-zeroed c = λ first. step.pages_behind-zeroed

pub returns-clause-published : goal.returns-clause-published
returns-clause-published c = λ first. step.pages_behind-published

pub returns-clause-advanced : goal.returns-clause-advanced
returns-clause-advanced c = λ first. step.pages_behind-advanced
