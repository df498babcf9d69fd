use Rattle.std.proofs.Common.{arith}
use Rattle.wal_rule.proofs.Allowed.{joins_in}
use Rattle.wal_rule.proofs.Live.{live_joins}
use Rattle.wal_rule.proofs.table.LogTable.join_leaving.Goals as goal

pub join_seat-requires : goal.join_seat-requires
join_seat-requires g c = (
  c.requires.seat.of_table,
  c.requires.other.of_table,
  c.requires.rests.1,
  omega (arith, c.args.self.now.wide),
  live_joins g.D.Disk.tape g.D.Disk.moment g.D.Disk.faults _ _ _ _ c.requires.seat.live _ _ _ _
      (joins_in g.D.Disk.tape g.D.Disk.moment g.D.Disk.faults _ _ _ _ _ _ c.requires.seat.live
      c.requires.other.live c.requires.rests.0 _ c.requires.left),
)
