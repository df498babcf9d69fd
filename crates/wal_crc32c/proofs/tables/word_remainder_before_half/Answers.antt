use Rattle.std.proofs.Common.{sym}
use Rattle.wal_crc32c.proofs.Words.{lookups_before_half}
use Rattle.wal_crc32c.proofs.tables.word_remainder_before_half.Goals as goal

pub returns : goal.returns
returns c =
    rw (c.byte_remainder.ensures, c.byte_remainder-2.ensures, c.byte_remainder-3.ensures, c.byte_remainder-4.ensures, c.byte_remainder-5.ensures, c.byte_remainder-6.ensures, c.byte_remainder-7.ensures, c.byte_remainder-8.ensures, c.to_le_bytes.ensures)
    (sym (lookups_before_half c.args.word c.ranges.word.fits))
