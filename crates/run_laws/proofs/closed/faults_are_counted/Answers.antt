use Rattle.run_laws.proofs.ClosedRuns.{counted_down, counted_up}
use Rattle.run_laws.proofs.closed.faults_are_counted.Goals as goal

pub returns-clause-up : goal.returns-clause-up
returns-clause-up g c = counted_up

pub returns-clause-down : goal.returns-clause-down
returns-clause-down g c = counted_down
