use Rattle.std.proofs.Common.{◌<◌, arith}
use Rattle.std.specs.Slots.{slots_len}
use Rattle.wal_rule.specs.Tables.{began_of_table, opening_of_table}
use Rattle.wal_rule.proofs.Closes.{closes}
use Rattle.wal_rule.proofs.Live.{live_ends}
use Rattle.wal_rule.proofs.table.LogTable.close.Goals as goal

pub word-position-requires : goal.word-position-requires
word-position-requires g c =
    let wide = c.args.self.wide in
    let counts = c.close_with-closed.ensures.counts.0 in
    let there : 0 < slots_len c.close_with-closed.result.words = omega (arith, wide, counts) in
    (there, c.close_with-closed.ensures.values.0)

pub take-writer-requires : goal.take-writer-requires
take-writer-requires g c =
    let one = c.args.self.one_slot in
    let counts = c.close_with-closed.ensures.counts.1 in
    let there : 0 < slots_len c.close_with-closed.result.slots = omega (arith, one, counts) in
    (there, c.close_with-closed.ensures.values.1 0 (omega arith) there)

pub returns : goal.returns
returns g c = closes g.D.Disk.tape g.D.Disk.moment g.D.Disk.faults
    (opening_of_table c.args.self) (began_of_table g.D.Disk.tape c.args.self)
    c.args.seat.id c.args.seat.me.0 c.requires.seat.live c.requires.rests c.requires.numbers
    _ _ c.take-writer.result c.word-position.result
    (live_ends g.D.Disk.tape g.D.Disk.moment g.D.Disk.faults (opening_of_table c.args.self)
    (began_of_table g.D.Disk.tape c.args.self) c.args.seat.id c.args.seat.me.0
    c.requires.seat.live _ _ c.close_with-closed.ensures.values.2)
    c.take-writer.ensures.value c.word-position.ensures
