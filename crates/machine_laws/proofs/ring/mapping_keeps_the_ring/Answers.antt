use Rattle.machine_laws.proofs.RingLaws as law
use Rattle.machine_laws.proofs.ring.mapping_keeps_the_ring.Goals as goal

pub returns : goal.returns
returns c = λ opening order reach further memory flights k.
    law.reaches opening order reach memory flights k further
