use Rattle.wal_log_laws.proofs.SharedOrders.{passes_make_the_order}
use Rattle.wal_log_laws.proofs.histories.passes_make_the_order.Goals as goal

pub returns : goal.returns
returns g c = passes_make_the_order g.D.Disk.tape g.D.Disk.moment g.D.Disk.faults
