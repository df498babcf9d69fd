use Rattle.machine_laws.proofs.RingLaws as law
use Rattle.machine_laws.proofs.StoredWords.{is_mapped}
use Rattle.machine_laws.proofs.ring.copies_keep_the_ring.Goals as goal

pub returns-clause-begun : goal.returns-clause-begun
returns-clause-begun c = λ opening order reach memory flights id e prev locks valid chain k.
    law.reserves opening order reach memory flights k valid chain id e prev locks

pub returns-clause-stored : goal.returns-clause-stored
returns-clause-stored c =
    λ opening order reach memory memory2 flights stage initialised written ends ring confirmed id
    met copy valid placed chain k pages flies here on.
    law.copies opening order reach memory flights k valid chain placed id copy memory2 flies on.left
    (is_mapped opening.setup reach stage initialised written ends ring memory confirmed pages copy
    id met here on)

pub returns-clause-released : goal.returns-clause-released
returns-clause-released c = λ opening order reach memory flights id lock flight valid placed chain k
    here. law.releases opening order reach memory flights k valid chain placed id flight here lock
