use Rattle.std.proofs.Common.{◌≡◌, ◌-◌}
use Rattle.wal_crc32c.specs.Crc32c.{times_power, after_byte}
use Rattle.wal_crc32c.proofs.division.after_byte.Given as goal

-- the bits that are left give the byte's remainder
abbrev pub invariant-loop-bit : goal.invariant-loop-bit
invariant-loop-bit l = times_power (8 - l._bit) l.shifted ≡ after_byte l.fn.remainder l.fn.byte
