use Rattle.std.proofs.Common.{◌≡◌, fold, length}
use Rattle.wal_crc32c.specs.Crc32c.{after_byte}
use Rattle.wal_crc32c.proofs.crc.after_short_bytes.Given as goal

-- what is absorbed so far and the rest are the whole
abbrev pub invariant-loop-piece : goal.invariant-loop-piece
invariant-loop-piece l = fold after_byte l.remainder l.rest ≡ fold after_byte l.fn.remainder l.bytes

abbrev pub decreases-loop-piece : goal.decreases-loop-piece
decreases-loop-piece l = length l.rest
