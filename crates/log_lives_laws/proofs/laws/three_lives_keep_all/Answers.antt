use Rattle.log_lives_laws.proofs.Theorem.{three_lives_keep_all}
use Rattle.log_lives_laws.proofs.laws.three_lives_keep_all.Goals as goal

pub returns : goal.returns
returns c = three_lives_keep_all
