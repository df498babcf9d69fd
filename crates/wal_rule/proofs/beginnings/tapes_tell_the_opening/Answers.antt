use Rattle.wal_rule.proofs.OpeningTold.{began_suited, found_suited}
use Rattle.wal_rule.proofs.beginnings.tapes_tell_the_opening.Goals as goal

pub returns-clause-empty : goal.returns-clause-empty
returns-clause-empty c = λ opening began now none_made none_there counted same goes.
    began_suited opening began now none_made none_there counted same goes

pub returns-clause-found : goal.returns-clause-found
returns-clause-found c = λ opening began now suited counted same goes.
    found_suited opening began now suited counted same goes
