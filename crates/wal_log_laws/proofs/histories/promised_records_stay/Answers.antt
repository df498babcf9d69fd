use Rattle.wal_log_laws.proofs.Theorem.{promised_records_stay}
use Rattle.wal_log_laws.proofs.histories.promised_records_stay.Goals as goal

pub returns : goal.returns
returns g c = promised_records_stay g.D.Disk.tape g.D.Disk.moment g.D.Disk.faults g.met.D.Disk.counts
