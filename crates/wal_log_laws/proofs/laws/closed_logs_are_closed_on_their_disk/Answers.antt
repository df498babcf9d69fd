use Rattle.wal_log_laws.proofs.Closes.{leaves_order}
use Rattle.wal_log_laws.proofs.laws.closed_logs_are_closed_on_their_disk.Goals as goal

pub returns : goal.returns
returns g c = record {
  closed = leaves_order g.D.Disk.tape g.D.Disk.moment g.D.Disk.faults g.met.D.Disk.counts;
}
