-- The machine's setup stays, and so does the ring's size.
use Rattle.std.proofs.Common.{◌∙◌}
use Rattle.machine_tests.proofs.Staying.{pages_stay}
use Rattle.machine_tests.proofs.played.Played.turn.Goals as goal

pub invariant_of-self : goal.invariant_of-self
invariant_of-self c =
    let p = c.self.inside in
    let was = c.self.invariant in
    let is = c.turn.ensures.turned (was.0.1).0 (was.0.1).1 in (
      c.turn.ensures.played,
      was.1,
      pages_stay p.core c.turn.new.self (was.0.1).0 c.args.backend (was.0.1).1 is.1 ∙ was.2,
    )
