use Rattle.std.proofs.Common.{arith}
use Rattle.wal_reader.proofs.record_checks.found.Goals as goal

pub end-requires-clause-next : goal.end-requires-clause-next
end-requires-clause-next g c =
    let value = g.K.KeepsRecord.kept c.decode_into.new.keeper in
    let next = c.next_position-next.ensures value c.in-Ok.ensures.as_reading in
    let low = c.requires.end value in
    omega (arith, next, low)
