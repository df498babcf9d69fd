use Rattle.std.proofs.Common.{refl}
use Rattle.machine_state.specs.Views.{Away}
use Rattle.machine_laws.proofs.PageLaws as law
use Rattle.machine_laws.proofs.pages.turns_keep_pages.Goals as goal

pub returns-clause-taken : goal.returns-clause-taken
returns-clause-taken c = λ n r i w ends ring memory confirmed k.
    law.takes_turn n r Away i w ends ring memory confirmed k refl

pub returns-clause-given_back : goal.returns-clause-given_back
returns-clause-given_back c = law.gives_back
