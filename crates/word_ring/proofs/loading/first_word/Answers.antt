use Rattle.std.proofs.Common.{arith}
use Rattle.word_ring.proofs.CountBounds.{in_bounds}
use Rattle.word_ring.proofs.HandLaws.{has_lent}
use Rattle.word_ring.proofs.loading.first_word.Goals as goal

pub overflow_mul-result : goal.overflow_mul-result
overflow_mul-result g c =
    let pass = c.args._seated.now in
    let bounds = in_bounds pass.seat.me.0 pass.seated.stands
    (has_lent g.D.Disk.tape g.D.Disk.moment g.D.Disk.faults pass c.requires.hand) in
    let low = bounds.known in
    let copied = c.requires.copied in
    omega (arith, low, copied)

pub returns-clause-low : goal.returns-clause-low
returns-clause-low g c =
    let pass = c.args._seated.now in
    let bounds = in_bounds pass.seat.me.0 pass.seated.stands
    (has_lent g.D.Disk.tape g.D.Disk.moment g.D.Disk.faults pass c.requires.hand) in
    let low = bounds.known in
    let copied = c.requires.copied in
    omega (arith, low, copied)
