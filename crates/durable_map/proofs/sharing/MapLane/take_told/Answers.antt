use Rattle.std.proofs.Common.{refl}
use Rattle.durable_map.proofs.LaneCalls.{gives_told}
use Rattle.durable_map.proofs.sharing.MapLane.take_told.Goals as goal

pub returns : goal.returns
returns c =
    gives_told c.pop_front.result c.args.self.now _ refl refl c.pop_front.ensures.items
