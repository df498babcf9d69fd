use Rattle.std.proofs.Common.{refl}
use Rattle.machine_laws.proofs.ClosingNumbers.{first_has_all, joins_unite_numbers, splits_share_numbers, steps_keep_numbers}
use Rattle.wal_rule.proofs.numbers.seats_keep_numbers.Goals as goal

pub returns-clause-first : goal.returns-clause-first
returns-clause-first c = λ opening. (
  record { place = refl; locks = refl; flight = refl; stage = refl; hold = refl },
  first_has_all opening,
)

pub returns-clause-steps : goal.returns-clause-steps
returns-clause-steps c = λ v e met home n.
    steps_keep_numbers n v e met home

pub returns-clause-split : goal.returns-clause-split
returns-clause-split c = λ n v. splits_share_numbers n v

pub returns-clause-join : goal.returns-clause-join
returns-clause-join c = λ n v w.
    joins_unite_numbers n v w
