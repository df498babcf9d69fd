-- One event of the history behind another.
use Rattle.standby_laws.proofs.HistoryLaws.{promises_are_kept}
use Rattle.standby_laws.proofs.laws.standbys_keep_their_promises.Goals as goal

pub returns : goal.returns
returns g c = λ size sysid since es told standing lived.
    promises_are_kept g.D.Disk.tape g.D.Disk.moment g.D.Disk.faults g.met.D.Disk.counts size sysid es since told standing lived
