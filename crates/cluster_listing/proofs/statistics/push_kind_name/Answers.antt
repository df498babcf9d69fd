use Rattle.std.proofs.Common.{◌∙◌}
use Rattle.cluster_listing.proofs.statistics.push_kind_name.Goals as goal

pub returns : goal.returns
returns c = rw (c.as_bytes.ensures ∙ c.name_of.ensures, c.as_bytes-2.ensures ∙ c.kind_name.ensures) at c.push_all.ensures
