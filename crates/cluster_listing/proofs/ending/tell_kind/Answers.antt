use Rattle.std.proofs.Common.{◌∙◌}
use Rattle.cluster_listing.proofs.ending.tell_kind.Goals as goal

pub returns : goal.returns
returns g c = rw (c.as_bytes.ensures.value, c.as_bytes-2.ensures ∙ c.text.ensures, c.as_bytes-3.ensures.value) at c.put_all.ensures
