use Rattle.run_laws.proofs.MomentsTold.{run_rises}
use Rattle.run_laws.proofs.rising.told_moments_rise.Goals as goal

pub returns : goal.returns
returns c = record { rise = run_rises }
