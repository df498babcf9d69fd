use Rattle.wal_log_laws.proofs.Theorem.{three_lives_keep_promised}
use Rattle.wal_log_laws.proofs.histories.three_lives_keep_promised.Goals as goal

pub returns : goal.returns
returns g c = three_lives_keep_promised g.D.Disk.tape g.D.Disk.moment g.D.Disk.faults g.met.D.Disk.counts
