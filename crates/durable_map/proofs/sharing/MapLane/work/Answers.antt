use Rattle.std.proofs.Common.{refl}
use Rattle.durable_map.proofs.LaneCalls.{not_worked, worked_off}
use Rattle.durable_map.proofs.sharing.MapLane.work.Goals as goal

pub returns-in-Ok : goal.returns-in-Ok
returns-in-Ok g c = worked_off c.args.log.now _ _ c.args.self.now _ _ c.replace-calls.ensures.value
    c.replace-calls.ensures.after c.new.ensures.items refl c.reserve.ensures.items c.make.ensures

pub returns-in-Err : goal.returns-in-Err
returns-in-Err g c = not_worked c.args.log.now _ c.args.self.now _ c.requires
    c.replace-calls.ensures.after c.new.ensures.items refl c.reserve.ensures.items
