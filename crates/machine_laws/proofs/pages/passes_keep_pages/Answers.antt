use Rattle.machine_laws.proofs.PageLaws as law
use Rattle.machine_laws.proofs.pages.passes_keep_pages.Goals as goal

pub returns-clause-one_more : goal.returns-clause-one_more
returns-clause-one_more c = λ n r s i w ends ring memory confirmed id met k.
    law.one_more n r s i w ends ring memory confirmed k id met

pub returns-clause-given_up : goal.returns-clause-given_up
returns-clause-given_up c = λ n r s i w ends ring memory confirmed id met k.
    law.one_beside n r s i w ends ring memory confirmed k id met

pub returns-clause-taken_in : goal.returns-clause-taken_in
returns-clause-taken_in c = λ n r s i w ends ring memory confirmed id other met k.
    law.one_less n r s i w ends ring memory confirmed k id other met
