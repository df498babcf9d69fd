use Rattle.wal_log_laws.proofs.LoneOrders.{lone_passes_make_the_order}
use Rattle.wal_log_laws.proofs.histories.lone_passes_make_the_order.Goals as goal

pub returns : goal.returns
returns g c = lone_passes_make_the_order g.D.Disk.tape g.D.Disk.moment g.D.Disk.faults
