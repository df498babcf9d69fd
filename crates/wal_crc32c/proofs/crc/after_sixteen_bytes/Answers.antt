use Rattle.std.proofs.Common.{sym, rules}
use Rattle.wal_crc32c.proofs.Words.{fold_sixteen}
use Rattle.wal_crc32c.proofs.crc.after_sixteen_bytes.Goals as goal

pub returns : goal.returns
returns c =
    rw (c.word_remainder.ensures, c.word_remainder_ahead.ensures, c.from.ensures, c.from_le_bytes-first.ensures, c.from_le_bytes-second.ensures)
    (sym (fold_sixteen c.args.remainder c.args.bytes.now c.told-bytes (search rules)))
