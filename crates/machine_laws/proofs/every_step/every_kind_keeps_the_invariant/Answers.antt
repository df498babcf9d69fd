use Rattle.machine_laws.proofs.WholeInvariant.{sound_behind}
use Rattle.machine_laws.proofs.every_step.every_kind_keeps_the_invariant.Goals as goal

pub returns : goal.returns
returns c = λ first. sound_behind
