use Rattle.run_laws.proofs.CatchingUp.{run_catches_up}
use Rattle.run_laws.proofs.rising.flushes_behind_catch_up.Goals as goal

pub returns : goal.returns
returns c = record { catch_up = run_catches_up }
