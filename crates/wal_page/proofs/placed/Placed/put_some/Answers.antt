use Rattle.std.proofs.Common.{◌≡◌, ℕ, length, take, subst, arith}
use Rattle.std.proofs.lemmas.List.{length-take}
use Rattle.wal_page.specs.Placed.{LieTogether}
use Rattle.wal_page.proofs.placed.Placed.put_some.Goals as goal

pub put_together-requires-clause-some : goal.put_together-requires-clause-some
put_together-requires-clause-some c = omega (arith, length-take c.words_together-count.result c.args.words.now)

pub put_together-requires-clause-together : goal.put_together-requires-clause-together
put_together-requires-clause-together c =
    let count = c.words_together-count.result in
    let places : count ≡ length (take count c.args.words.now) = omega (arith, length-take count c.args.words.now) in
    subst (λ (n : ℕ). LieTogether c.args.self.now n) places (c.words_together-count.ensures.together (omega arith))

pub put_together-requires-clause-owned : goal.put_together-requires-clause-owned
put_together-requires-clause-owned c = omega (arith, length-take c.words_together-count.result c.args.words.now)
