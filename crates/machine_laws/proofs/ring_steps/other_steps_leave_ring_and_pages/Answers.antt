use Rattle.machine_laws.proofs.LeftSteps as step
use Rattle.machine_laws.proofs.ring_steps.other_steps_leave_ring_and_pages.Goals as goal

pub returns-clause-ring : goal.returns-clause-ring
returns-clause-ring c = λ first. step.ring_behind-left

pub returns-clause-pages : goal.returns-clause-pages
returns-clause-pages c = λ first. step.pages_behind-left
