use Rattle.machine_laws.proofs.CrashLaws.{crashes_leave_the_log}
use Rattle.machine_laws.proofs.crashes.crashes_leave_what_was_promised.Goals as goal

pub returns : goal.returns
returns c = record {
  lawful = λ first o order flushed moment down home writer parts h setup placed.
      crashes_leave_the_log o order flushed moment down home writer parts h setup.size placed;
}
