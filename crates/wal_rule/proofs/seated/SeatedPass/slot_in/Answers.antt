use Rattle.std.proofs.Common.{arith}
use Rattle.wal_rule.proofs.TableSteps.{comes_in_there}
use Rattle.wal_rule.proofs.seated.SeatedPass.slot_in.Goals as goal

pub load-requires : goal.load-requires
load-requires g c = (
  c.args.self.now.seated.of_table,
  omega (arith, c.args.self.now.table.now.wide),
  comes_in_there g.D.Disk.tape g.D.Disk.moment g.D.Disk.faults _ _ _ _ _ c.args.self.now.seated.live
      c.requires.out.0 c.requires.out.1 c.requires.out.2 c.requires.may,
)
