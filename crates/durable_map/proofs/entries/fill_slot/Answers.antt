use Rattle.std.specs.Prelude.{Some}
use Rattle.std.proofs.Common.{refl}
use Rattle.durable_map.specs.Stores.{slot_bytes}
use Rattle.durable_map.proofs.Keys.{takes_in}
use Rattle.durable_map.proofs.entries.fill_slot.Goals as goal

pub returns : goal.returns
returns c = takes_in (record { key = c.args.key.now; value = slot_bytes c.args.value }) (Some c.args.value) c.args.entries.now (c.get_mut.follows.lender c.args.value) refl ((c.get_mut.follows.holds c.args.value).3 c.requires)
