use Rattle.std.proofs.Common.{arith}
use Rattle.wal_rule.specs.Tables.{began_of_table, opening_of_table}
use Rattle.wal_rule.proofs.Begins.{waits_again}
use Rattle.wal_rule.proofs.table.LogTable.wait_again.Goals as goal

pub load-requires : goal.load-requires
load-requires g c = (
  c.requires.table,
  omega (arith, c.args.self.now.wide),
  waits_again g.D.Disk.tape g.D.Disk.moment g.D.Disk.faults (opening_of_table c.args.self.now)
      (began_of_table g.D.Disk.tape c.args.self.now) _ _ c.requires.out.0 _ c.requires.out.2
      c.requires.out.1,
)
