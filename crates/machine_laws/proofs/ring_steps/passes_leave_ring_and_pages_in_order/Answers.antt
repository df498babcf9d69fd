use Rattle.machine_laws.proofs.RingPassSteps as step
use Rattle.machine_laws.proofs.ring_steps.passes_leave_ring_and_pages_in_order.Goals as goal

pub returns-clause-ring_split : goal.returns-clause-ring_split
returns-clause-ring_split c = λ first. step.ring-split

pub returns-clause-ring_taken_in : goal.returns-clause-ring_taken_in
returns-clause-ring_taken_in c = λ first. step.ring-taken_in

pub returns-clause-ring_given_up : goal.returns-clause-ring_given_up
returns-clause-ring_given_up c = λ first. step.ring-given_up

pub returns-clause-pages_split : goal.returns-clause-pages_split
returns-clause-pages_split c = λ first. step.pages-split

pub returns-clause-pages_given_up : goal.returns-clause-pages_given_up
returns-clause-pages_given_up c = λ first. step.pages-given_up

pub returns-clause-pages_taken_in : goal.returns-clause-pages_taken_in
returns-clause-pages_taken_in c = λ first opening words home views s id v here other u there rests.
    step.pages-taken_in opening words home views s id v here other u there
