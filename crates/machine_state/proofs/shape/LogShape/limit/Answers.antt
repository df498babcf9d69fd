use Rattle.machine_state.proofs.Bounds.{limit_low}
use Rattle.machine_state.proofs.shape.LogShape.limit.Goals as goal

pub returns-clause-low : goal.returns-clause-low
returns-clause-low c = rw c.self.invariant.2 (limit_low c.self.inside.setup c.self.invariant.0)
