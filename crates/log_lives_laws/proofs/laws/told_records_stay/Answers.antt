use Rattle.log_lives_laws.proofs.Theorem.{told_records_stay}
use Rattle.log_lives_laws.proofs.laws.told_records_stay.Goals as goal

pub returns : goal.returns
returns c = told_records_stay
