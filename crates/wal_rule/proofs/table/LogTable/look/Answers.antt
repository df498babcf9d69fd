use Rattle.std.proofs.Common.{arith}
use Rattle.wal_rule.proofs.TableSteps.{looks_there}
use Rattle.wal_rule.proofs.table.LogTable.look.Goals as goal

pub load-requires : goal.load-requires
load-requires g c = (
  c.requires.table,
  omega (arith, c.args.self.now.wide),
  looks_there g.D.Disk.tape g.D.Disk.moment g.D.Disk.faults _ _ _ _ _ c.requires.live 0,
)
