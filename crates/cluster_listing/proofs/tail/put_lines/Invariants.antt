use Rattle.std.proofs.Common.{length, map}
use Rattle.waldump_text.specs.Put.{HasPut, joined}
use Rattle.cluster_listing.proofs.tail.put_lines.Given as goal

abbrev pub invariant-loop-line : goal.invariant-loop-line
invariant-loop-line g l = HasPut (g.O.Sink.taken l.initial.out) (g.O.Sink.taken l.out) (g.O.Sink.faults l.initial.out) (g.O.Sink.faults l.out) (joined (map (λ x. x.items) l.fn.lines.items)) (joined (map (λ x. x.items) l.lines.items))

abbrev pub decreases-loop-line : goal.decreases-loop-line
decreases-loop-line g l = length l.lines.items
