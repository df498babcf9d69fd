use Rattle.std.proofs.Common.{refl}
use Rattle.machine_laws.proofs.ToldLaws.{told_asked, told_released}
use Rattle.machine_laws.proofs.locks_told.locks_tell_nothing_at_first.Goals as goal

pub returns-clause-taken : goal.returns-clause-taken
returns-clause-taken c = λ size end lock later parts id i v held k here others is.
    told_asked size end lock parts k held id v.working here later i others v refl is

pub returns-clause-released : goal.returns-clause-released
returns-clause-released c = λ size end lock later parts id i w held k here mine others free.
    told_released size end lock parts k held id w here later i others mine free
