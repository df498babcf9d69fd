use Rattle.std.proofs.Common.{◌≡◌, ◌++◌, drop}
use Rattle.cluster_listing.specs.Line.{blocks_line}
use Rattle.cluster_listing.proofs.line.push_blocks.Given as goal

abbrev pub invariant-loop-block : goal.invariant-loop-block
invariant-loop-block l = l.line.items ++ blocks_line (drop l.block-index l.blocks) ≡ l.initial.line.items ++ blocks_line l.blocks
