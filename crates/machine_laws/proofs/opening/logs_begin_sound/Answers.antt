use Rattle.machine_state.proofs.NothingFound.{nothing_ends, nothing_opens}
use Rattle.machine_laws.proofs.OpeningLaws.{logs_begin, suited_begins}
use Rattle.machine_laws.proofs.opening.logs_begin_sound.Goals as goal

pub returns-clause-sound : goal.returns-clause-sound
returns-clause-sound c = logs_begin

pub returns-clause-suited : goal.returns-clause-suited
returns-clause-suited c = suited_begins

pub returns-clause-nothing : goal.returns-clause-nothing
returns-clause-nothing c = λ opening valid fresh few.
    (nothing_opens opening valid fresh few, nothing_ends opening valid.size fresh)
