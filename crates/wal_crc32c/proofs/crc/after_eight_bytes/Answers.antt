use Rattle.std.proofs.Common.{sym, rules}
use Rattle.wal_crc32c.proofs.Words.{fold-eight}
use Rattle.wal_crc32c.proofs.crc.after_eight_bytes.Goals as goal

pub returns : goal.returns
returns c =
    rw (c.word_remainder.ensures, c.from.ensures, c.from_le_bytes.ensures)
    (sym (fold-eight c.args.remainder c.args.bytes.now c.told-bytes (search rules)))
