use Rattle.machine_laws.proofs.ToldLaws.{told_begun, told_copied_on, told_later}
use Rattle.machine_laws.proofs.locks_told.what_is_told_of_copies_stays_true.Goals as goal

pub returns-clause-begun : goal.returns-clause-begun
returns-clause-begun c = λ size end lock parts id w d k here lands above.
    told_begun size end lock parts k id w here d lands above

pub returns-clause-later : goal.returns-clause-later
returns-clause-later c = told_later

pub returns-clause-copied_on : goal.returns-clause-copied_on
returns-clause-copied_on c = λ size end lock parts id w k here.
    told_copied_on size end lock parts k id w here
