use Rattle.std.proofs.Common.{arith}
use Rattle.wal_rule.specs.Tables.{began_of_table, opening_of_table, table_number}
use Rattle.wal_rule.proofs.Begins.{taken_out, takes_out}
use Rattle.wal_rule.proofs.Founds.{as_founded}
use Rattle.wal_rule.proofs.table.LogTable.take_out.Goals as goal

pub load-requires : goal.load-requires
load-requires g c = (
  c.requires.seat.table,
  omega (arith, c.args.self.now.wide),
  takes_out g.D.Disk.tape g.D.Disk.moment g.D.Disk.faults (opening_of_table c.args.self.now)
      (began_of_table g.D.Disk.tape c.args.self.now) _ _ _ _ _ c.requires.seat.waits _
      c.requires.began,
)

pub returns-clause-out : goal.returns-clause-out
returns-clause-out g c =
    let key = ((c.args.self.now).table).shared.key in
    let out = taken_out g.D.Disk.tape g.D.Disk.moment g.D.Disk.faults
    (opening_of_table c.args.self.now) (began_of_table g.D.Disk.tape c.args.self.now)
    (table_number c.args.self.now).slots c.args.seat.now.id _ _ _ c.requires.seat.waits _
    c.requires.began c.load.new.seat.me c.load.ensures.2 in (
      out.0,
      as_founded g.D.Disk.tape g.D.Disk.moment g.D.Disk.faults key out.0 out.1 out.2 out.3,
      out.4,
    )
