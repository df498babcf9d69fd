use Rattle.std.proofs.Common.{◌≡◌, take}
use Rattle.wal_crc32c.specs.Crc32c.{remainder_of}
use Rattle.wal_crc32c.proofs.division.crc32c_by_division.Given as goal

abbrev pub invariant-loop-byte : goal.invariant-loop-byte
invariant-loop-byte l = l.remainder ≡ remainder_of (take l.byte-index l.bytes)
