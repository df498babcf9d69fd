use Rattle.wal_rule.proofs.MetNumbers.{known_rose, known_same}
use Rattle.wal_rule.proofs.downs.down_values_are_known.Goals as goal

pub returns-clause-rose : goal.returns-clause-rose
returns-clause-rose c = λ v stands faults knows. known_rose v stands faults knows

pub returns-clause-same : goal.returns-clause-same
returns-clause-same c = λ v stands f g one other. known_same v stands f g one other
