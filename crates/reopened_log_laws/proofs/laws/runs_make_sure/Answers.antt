use Rattle.reopened_log_laws.proofs.SureDisks.{runs_make_sure}
use Rattle.reopened_log_laws.proofs.laws.runs_make_sure.Goals as goal

pub returns : goal.returns
returns c = runs_make_sure
