use Rattle.run_laws.proofs.TakingIn.{last_closes}
use Rattle.run_laws.proofs.laws.last_passes_close_logs.Goals as goal

pub returns : goal.returns
returns c = record { close = λ first. last_closes }
