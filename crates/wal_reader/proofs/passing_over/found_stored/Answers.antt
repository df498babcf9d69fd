use Rattle.std.proofs.Common.{arith}
use Rattle.wal_reader.proofs.passing_over.found_stored.Goals as goal

pub end-requires-clause-next : goal.end-requires-clause-next
end-requires-clause-next c =
    let next = c.position_behind-next.ensures in
    let low = c.requires.end c.decode_stored.new.keeper in
    omega (arith, next, low)
