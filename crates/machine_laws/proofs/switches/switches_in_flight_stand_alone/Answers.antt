use Rattle.machine_laws.proofs.SwitchSteps.{stands_alone}
use Rattle.machine_laws.proofs.switches.switches_in_flight_stand_alone.Goals as goal

pub returns : goal.returns
returns c = record { alone = λ first. stands_alone }
