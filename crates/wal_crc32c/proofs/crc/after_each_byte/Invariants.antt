use Rattle.std.proofs.Common.{◌≡◌, fold, take}
use Rattle.wal_crc32c.specs.Crc32c.{after_byte}
use Rattle.wal_crc32c.proofs.crc.after_each_byte.Given as goal

abbrev pub invariant-loop-byte : goal.invariant-loop-byte
invariant-loop-byte l = l.remainder ≡ fold after_byte l.fn.remainder (take l.byte-index l.bytes)
