use Rattle.std.proofs.Common.{arith}
use Rattle.wal_rule.proofs.Allowed.{gives_up}
use Rattle.wal_rule.proofs.Live.{live_splits}
use Rattle.wal_rule.proofs.seated.SeatedPass.give_up.Goals as goal

pub split_seat-requires : goal.split_seat-requires
split_seat-requires g c = (
  c.args.self.now.seated.of_table,
  omega (arith, c.args.self.now.table.now.wide),
  live_splits g.D.Disk.tape g.D.Disk.moment g.D.Disk.faults _ _ _ _ c.args.self.now.seated.live _ _
      (gives_up g.D.Disk.tape g.D.Disk.moment g.D.Disk.faults _ _ _ _ c.args.self.now.seated.live
      c.requires.stranded),
)
