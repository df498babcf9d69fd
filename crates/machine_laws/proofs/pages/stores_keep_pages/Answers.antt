use Rattle.machine_laws.proofs.PageLaws as law
use Rattle.machine_laws.proofs.StoredWords.{stores_word}
use Rattle.machine_laws.proofs.pages.stores_keep_pages.Goals as goal

pub returns-clause-word : goal.returns-clause-word
returns-clause-word c =
    λ setup r s i w ends ends2 ring ring2 memory memory2 confirmed flights id met below value copy
    k.
    stores_word setup r s i w ends ring memory confirmed k copy flights id met below value
    ends2 ring2 memory2

pub returns-clause-written : goal.returns-clause-written
returns-clause-written c = λ n r s i w w2 ends ring memory confirmed k.
    law.rises n r s i w ends ring memory confirmed k w2
