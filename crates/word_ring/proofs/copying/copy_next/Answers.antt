use Rattle.std.proofs.Common.{arith}
use Rattle.word_ring.proofs.copying.copy_next.Goals as goal

pub lie_together-requires : goal.lie_together-requires
lie_together-requires g c =
    let on = c.requires.may.on_page in
    record { on_page = omega (arith, on) }

pub copy_together-requires-clause-together : goal.copy_together-requires-clause-together
copy_together-requires-clause-together g c = c.lie_together.ensures.0 c.if-lie_together.true
