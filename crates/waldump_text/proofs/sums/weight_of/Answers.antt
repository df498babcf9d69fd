use Rattle.std.proofs.Common.{refl, ap, sym, ◌∙◌}
use Rattle.waldump_text.specs.Sums.{images_len}
use Rattle.waldump_text.proofs.sums.weight_of.Goals as goal

pub images_within-requires : goal.images_within-requires
images_within-requires c = rw c.as_slice.ensures c.requires.images

pub returns : goal.returns
returns c = record { manager = refl; images = sym (c.images_within.ensures ∙ ap images_len c.as_slice.ensures); total = refl }
