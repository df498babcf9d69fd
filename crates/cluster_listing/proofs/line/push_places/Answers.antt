use Rattle.std.proofs.Common.{◌∙◌}
use Rattle.cluster_listing.proofs.line.push_places.Goals as goal

pub returns : goal.returns
returns c = rw (c.as_bytes.ensures ∙ c.text.ensures, c.as_bytes-2.ensures ∙ c.text-2.ensures, c.as_bytes-3.ensures ∙ c.kind_name.ensures) at c.push_all.ensures
