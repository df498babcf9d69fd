use Rattle.std.proofs.Common.{ap, ◌∙◌, arith}
use Rattle.cluster_listing.specs.Tail.{last_so_many}
use Rattle.cluster_listing.proofs.TailLaws.{last_so_many-shorter}
use Rattle.cluster_listing.proofs.tail.keep_last.Goals as goal

pub loop-lines-preserved-in-loop-lines : goal.loop-lines-preserved-in-loop-lines
loop-lines-preserved-in-loop-lines c =
    ap (last_so_many c.args.most) c.pop_front.ensures.rest
    ∙ last_so_many-shorter c.args.most c.loop-lines.lines.items (omega (arith, c.len.ensures, c.loop-lines-test.true))
    ∙ c.loop-lines.invariant
