use Rattle.std.proofs.Common.{◌≡◌, take}
use Rattle.waldump_text.specs.Sums.{images_len}
use Rattle.cluster_listing.proofs.line.images_len.Given as goal

abbrev pub invariant-loop-block : goal.invariant-loop-block
invariant-loop-block l = l.len ≡ images_len (take l.block-index l.blocks)
