use Rattle.std.specs.Prelude.{None}
use Rattle.std.proofs.Common.{refl}
use Rattle.durable_map.proofs.Keys.{takes_in}
use Rattle.durable_map.proofs.entries.take_out.Goals as goal

pub returns : goal.returns
returns c = takes_in (record { key = c.args.key.now; value = None }) None c.args.entries.now c.remove.new.self refl c.remove.ensures.updates
