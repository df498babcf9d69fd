use Rattle.machine_laws.proofs.RingLaws as law
use Rattle.machine_laws.proofs.ring.passes_keep_the_ring.Goals as goal

pub returns-clause-stays : goal.returns-clause-stays
returns-clause-stays c = λ opening order reach memory flights id flight k.
    law.stays opening order reach memory flights k id flight

pub returns-clause-split_off : goal.returns-clause-split_off
returns-clause-split_off c = λ opening order reach memory flights id flight k.
    law.splits opening order reach memory flights k id flight

pub returns-clause-taken_in : goal.returns-clause-taken_in
returns-clause-taken_in c = λ opening order reach memory flights id other flight k here.
    law.takes_in opening order reach memory flights k id flight here other

pub returns-clause-given_up : goal.returns-clause-given_up
returns-clause-given_up c = λ opening order reach memory flights id flight k.
    law.gives_up opening order reach memory flights k id flight
