use Rattle.std.proofs.Common.{arith}
use Rattle.wal_rule.proofs.Allowed.{splits_off}
use Rattle.wal_rule.proofs.Live.{live_splits}
use Rattle.wal_rule.proofs.table.LogTable.split.Goals as goal

pub split_seat-other-requires : goal.split_seat-other-requires
split_seat-other-requires g c = (
  c.requires.seat.of_table,
  omega (arith, c.args.self.now.wide),
  live_splits g.D.Disk.tape g.D.Disk.moment g.D.Disk.faults _ _ _ _ c.requires.seat.live _ _
      (splits_off g.D.Disk.tape g.D.Disk.moment g.D.Disk.faults _ _ _ _ c.requires.seat.live
      c.requires.spare),
)
