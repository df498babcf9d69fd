use Rattle.wal_log_laws.proofs.Commits.{commits_are_promised}
use Rattle.wal_log_laws.proofs.histories.commits_are_promised.Goals as goal

pub returns : goal.returns
returns g c = commits_are_promised g.D.Disk.tape g.D.Disk.moment g.D.Disk.faults
