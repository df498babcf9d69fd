use Rattle.wal_rule.specs.Called.{creates}
use Rattle.wal_rule.specs.Tables.{began_of_table, opening_of_table}
use Rattle.wal_rule.proofs.DeviceSteps.{create_reaches, is_called, lends}
use Rattle.wal_rule.proofs.seated.SeatedPass.create.Goals as goal

pub slot_mut-writer-requires : goal.slot_mut-writer-requires
slot_mut-writer-requires g c = (
  c.args.self.now.seated.of_table,
  (
    c.requires.out.1,
    lends g.D.Disk.tape g.D.Disk.moment g.D.Disk.faults (opening_of_table c.args.self.now.table.now)
        (began_of_table g.D.Disk.tape c.args.self.now.table.now) c.args.self.now.seat.me c.requires.out.0
        c.requires.out.1 c.requires.out.2,
  ),
)

pub reaches-requires : goal.reaches-requires
reaches-requires g c = create_reaches g.D.Disk.tape g.D.Disk.moment g.D.Disk.faults (opening_of_table c.args.self.now.table.now)
    (began_of_table g.D.Disk.tape c.args.self.now.table.now) c.args.self.now.seat.me c.requires.out.0
    c.requires.out.1 c.slot_mut-writer.result.now c.requires.out.2
    c.slot_mut-writer.ensures.value c.args.self.now.seated.own c.args.segment c.requires.may

pub catch_up-requires-clause-called : goal.catch_up-requires-clause-called
catch_up-requires-clause-called g c =
    is_called g.D.Disk.tape g.D.Disk.moment g.D.Disk.faults (opening_of_table c.args.self.now.table.now)
    (began_of_table g.D.Disk.tape c.args.self.now.table.now) c.args.self.now.seat.me c.requires.out.0
    c.requires.out.1 c.slot_mut-writer.result.now c.requires.out.2
    c.slot_mut-writer.ensures.value (creates c.args.segment) c.create-ended.result
    c.create-ended.new.self tt c.create-ended.ensures
