use Rattle.machine_laws.proofs.ClosingNumbers.{first_has_all, joins_unite_numbers, splits_share_numbers, steps_keep_numbers}
use Rattle.machine_laws.proofs.closing.numbers_come_together_again.Goals as goal

pub returns-clause-first : goal.returns-clause-first
returns-clause-first c = first_has_all

pub returns-clause-steps : goal.returns-clause-steps
returns-clause-steps c = steps_keep_numbers

pub returns-clause-split : goal.returns-clause-split
returns-clause-split c = splits_share_numbers

pub returns-clause-join : goal.returns-clause-join
returns-clause-join c = joins_unite_numbers
