use Rattle.std.proofs.Common.{arith}
use Rattle.wal_crc32c.proofs.Lookups.{get_or-TABLES}
use Rattle.wal_crc32c.proofs.tables.byte_remainder.Goals as goal

pub returns : goal.returns
returns c = rw c.from.ensures (get_or-TABLES c.args.bytes_after c.args.byte (omega arith) (omega (arith, c.ranges.byte)))
