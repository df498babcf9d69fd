use Rattle.std.specs.Prelude.{Some}
use Rattle.std.proofs.Common.{refl}
use Rattle.durable_map.specs.Stores.{slot_bytes}
use Rattle.durable_map.proofs.Keys.{takes_in}
use Rattle.durable_map.proofs.entries.put.Goals as goal

pub returns-in-Ok : goal.returns-in-Ok
returns-in-Ok c = takes_in (record { key = c.args.key.items; value = slot_bytes c.args.value }) (Some c.args.value) c.args.entries.now c.insert.new.self refl c.in-Ok.ensures.updates
