use Rattle.std.proofs.Common.{◌≡◌, length}
use Rattle.cluster_listing.specs.Tail.{last_so_many}
use Rattle.cluster_listing.proofs.tail.keep_last.Given as goal

abbrev pub invariant-loop-lines : goal.invariant-loop-lines
invariant-loop-lines l = last_so_many l.most l.lines.items ≡ last_so_many l.most l.initial.lines.items

abbrev pub decreases-loop-lines : goal.decreases-loop-lines
decreases-loop-lines l = length l.lines.items
