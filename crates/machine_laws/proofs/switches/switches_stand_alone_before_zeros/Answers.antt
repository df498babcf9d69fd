use Rattle.machine_laws.proofs.SwitchSteps.{holds_all, none_in_flight, zeros_behind}
use Rattle.machine_laws.proofs.switches.switches_stand_alone_before_zeros.Goals as goal

pub returns-clause-locks : goal.returns-clause-locks
returns-clause-locks c = holds_all

pub returns-clause-alone : goal.returns-clause-alone
returns-clause-alone c = λ first. none_in_flight

pub returns-clause-zeros : goal.returns-clause-zeros
returns-clause-zeros c = λ first. zeros_behind
