use Rattle.std.proofs.Common.{refl, sym}
use Rattle.wal_rule.specs.Founded.{empty_log_opening}
use Rattle.wal_log.proofs.wal.Wal.open.Goals as goal

pub open_with-requires-clause-words : goal.open_with-requires-clause-words
open_with-requires-clause-words g c = c.in-Ok.ensures.first
    (empty_log_opening c.args.setup (g.D.Disk.moment c.args.disk) (g.D.Disk.faults c.args.disk))
    refl (sym c.moment.ensures) refl
