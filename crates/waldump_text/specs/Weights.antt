-- What a record adds to statistics.
use Rattle.std.specs.Prelude.{◌≡◌, true, false, Option, Some, None}
use Rattle.waldump_filter.specs.declared.Filter.{Filter}
use Rattle.waldump_filter.specs.declared.listed.Listed.{Listed}
use Rattle.waldump_filter.specs.Keeping.{keeps}
use Rattle.waldump_text.specs.Sums.{images_len}
use Rattle.waldump_text.specs.declared.weighing.Weight.{Weight}

-- it is this of a record
pub record Weighs (r : Listed) (w : Weight) : Type 0 where
  pub manager : r.value.rmid ≡ w.rmid
  pub images : images_len r.value.blocks ≡ w.images
  pub total : r.total ≡ w.total

-- it is told of a record that a filter keeps, and of no other
abbrev pub TellsWeight : Filter → Listed → Option Weight → Type 0
TellsWeight filter r (Some w) = (keeps filter r ≡ true) × Weighs r w
TellsWeight filter r None = keeps filter r ≡ false
