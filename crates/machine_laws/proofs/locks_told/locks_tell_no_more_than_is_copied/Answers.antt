use Rattle.machine_laws.proofs.ToldLaws.{told_same, told_advanced}
use Rattle.machine_laws.proofs.locks_told.locks_tell_no_more_than_is_copied.Goals as goal

pub returns-clause-same : goal.returns-clause-same
returns-clause-same c = λ size end lock later parts held k same.
    told_same size end lock parts k held later same

pub returns-clause-advanced : goal.returns-clause-advanced
returns-clause-advanced c = λ size end lock later parts id i w held k here mine others least.
    told_advanced size end lock parts k held id w here later i others mine least
