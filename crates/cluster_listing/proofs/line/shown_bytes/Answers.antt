use Rattle.std.proofs.Common.{arith}
use Rattle.cluster_listing.proofs.TextLaws.{length_of_front, shown_short}
use Rattle.cluster_listing.proofs.line.shown_bytes.Goals as goal

pub returns-then-main-le-SHOWN : goal.returns-then-main-le-SHOWN
returns-then-main-le-SHOWN c = shown_short c.args.whole c.args.main.now (omega arith)

pub slice_bounds-result-end : goal.slice_bounds-result-end
slice_bounds-result-end c = length_of_front 64 c.args.main.now (omega arith)
