use Rattle.run_laws.proofs.ClosedRuns.{empty_suited}
use Rattle.run_laws.proofs.closed.empty_disks_are_suited.Goals as goal

pub returns : goal.returns
returns c = record { suited = empty_suited }
