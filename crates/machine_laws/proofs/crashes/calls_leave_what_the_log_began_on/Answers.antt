use Rattle.machine_laws.proofs.CrashLaws.{stays_suited}
use Rattle.machine_laws.proofs.crashes.calls_leave_what_the_log_began_on.Goals as goal

pub returns : goal.returns
returns c = λ first. stays_suited
