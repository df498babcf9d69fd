use Rattle.machine_laws.proofs.CopiedWords.{copied-stored, landed-stored}
use Rattle.machine_laws.proofs.ring.copied_words_are_the_logs.Goals as goal

pub returns-clause-in_flight : goal.returns-clause-in_flight
returns-clause-in_flight c = λ opening order reach memory flights id n copy valid placed chain k here.
    copied-stored opening order reach memory flights k valid placed chain id copy here n

pub returns-clause-in_no_flight : goal.returns-clause-in_no_flight
returns-clause-in_no_flight c =
    λ opening order reach memory flights front back e n valid placed chain k are nowhere owned.
    landed-stored opening order reach memory flights k valid placed chain front back e are n owned nowhere
