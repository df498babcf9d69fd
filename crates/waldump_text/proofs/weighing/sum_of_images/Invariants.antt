use Rattle.std.proofs.Common.{◌≡◌, take}
use Rattle.waldump_text.specs.Sifting.{images_by_heads}
use Rattle.waldump_text.proofs.weighing.sum_of_images.Given as goal

abbrev pub invariant-loop-head : goal.invariant-loop-head
invariant-loop-head l = l.len ≡ images_by_heads (take l.head-index l.heads)
