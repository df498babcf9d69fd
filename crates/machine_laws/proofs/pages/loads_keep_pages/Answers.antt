use Rattle.machine_laws.proofs.PageLaws as law
use Rattle.machine_laws.proofs.pages.loads_keep_pages.Goals as goal

pub returns-clause-end : goal.returns-clause-end
returns-clause-end c = λ n r s i w ends ring memory confirmed id met buffer k.
    law.meets_end n r s i w ends ring memory confirmed k id met buffer

pub returns-clause-initialised : goal.returns-clause-initialised
returns-clause-initialised c = λ n r s i w ends ring memory confirmed id met k.
    law.meets_initialised n r s i w ends ring memory confirmed k id met

pub returns-clause-initialised_by_mapper : goal.returns-clause-initialised_by_mapper
returns-clause-initialised_by_mapper c = λ n r s i w ends ring memory confirmed id met k.
    law.looks n r s i w ends ring memory confirmed k id met

pub returns-clause-written_by_mapper : goal.returns-clause-written_by_mapper
returns-clause-written_by_mapper c = law.gets_ready
