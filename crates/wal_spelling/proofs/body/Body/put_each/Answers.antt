use Rattle.std.proofs.Common.{◌≢◌, ◌<◌, length, below_more, get_or-set_other, get_or-set_same, ◌∙◌, arith}
use Rattle.wal_spelling.proofs.body.Body.put_each.Goals as goal

pub loop-k-preserved : goal.loop-k-preserved
loop-k-preserved c =
    below_more _ _
    (λ k h. let other : k ≢ c.loop-k.k = omega arith in get_or-set_other c.loop-k.words c.loop-k.k k c.word.result 0 other ∙ c.loop-k.invariant k h)
    (let lt : c.loop-k.k < length c.loop-k.words = omega arith in get_or-set_same c.loop-k.words c.loop-k.k c.word.result 0 lt ∙ c.word.ensures)
