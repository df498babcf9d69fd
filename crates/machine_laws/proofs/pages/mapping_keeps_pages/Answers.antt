use Rattle.std.proofs.Common.{refl}
use Rattle.machine_state.specs.Views.{Ready, Zeroing, Published}
use Rattle.machine_laws.proofs.PageLaws as law
use Rattle.machine_laws.proofs.pages.mapping_keeps_pages.Goals as goal

pub returns-clause-cleared : goal.returns-clause-cleared
returns-clause-cleared c = λ n r at met i w ends ends2 ring memory confirmed k.
    law.clears n r (Ready at met) i w ends ring memory confirmed k ends2 at met refl

pub returns-clause-zeroed : goal.returns-clause-zeroed
returns-clause-zeroed c = λ n r at count i w ends ends2 ring ring2 memory confirmed k more same.
    law.zeroes n r (Zeroing at count) i w ends ring memory confirmed k ends2 ring2 same at count
    refl more

pub returns-clause-published : goal.returns-clause-published
returns-clause-published c = λ n r at i w ends ends2 ring memory confirmed k.
    law.publishes n r (Zeroing at 1024) i w ends ring memory confirmed k ends2 at refl

pub returns-clause-advanced : goal.returns-clause-advanced
returns-clause-advanced c = λ n r at i w ends ring memory confirmed id met k.
    law.advances n r (Published at) i w ends ring memory confirmed k at id met refl
