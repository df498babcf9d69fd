use Rattle.durable_map.proofs.Weaving.{logs_weave_lanes}
use Rattle.durable_map.proofs.laws.logs_weave_lanes.Goals as goal

pub returns : goal.returns
returns g c = logs_weave_lanes g.D.Disk.tape g.D.Disk.moment g.D.Disk.faults
    c.passes_make_the_order.ensures
