use Rattle.std.proofs.Common.{◌∙◌}
use Rattle.cluster_listing.proofs.ending.tell_enough.Goals as goal

pub returns : goal.returns
returns g c = rw (c.as_bytes.ensures.value ∙ c.format.ensures.text) at c.put_all.ensures
