use Rattle.std.proofs.Common.{sym}
use Rattle.wal_crc32c.proofs.Words.{lookups_of_half_before}
use Rattle.wal_crc32c.proofs.tables.half_word_remainder_before.Goals as goal

pub returns : goal.returns
returns c =
    rw (c.byte_remainder.ensures, c.byte_remainder-2.ensures, c.byte_remainder-3.ensures, c.byte_remainder-4.ensures, c.to_le_bytes.ensures)
    (sym (lookups_of_half_before c.args.bytes_after c.args.half c.ranges.half.fits))
