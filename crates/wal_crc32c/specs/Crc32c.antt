-- CRC-32C, the Castagnoli polynomial with its bits reflected, by division bit by bit (PostgreSQL's
-- pg_crc32c.h).
use Rattle.std.specs.Prelude.{◌≡◌, ℕ, zero, suc, ◌*◌, ◌/◌, ◌%◌, List, fold}
use Rattle.std.specs.Int.Bits.{bit_xor}

-- the remainder after one more bit of 0: the polynomial is taken off where the lowest bit falls out
abbrev pub times_x : ℕ → ℕ
times_x remainder = bit_xor (remainder / 2) (remainder % 2 * 0x82F63B78)

-- the remainder after n more bits of 0
unfoldable pub times_power : ℕ → ℕ → ℕ
times_power zero remainder = remainder
times_power (suc n) remainder = times_power n (times_x remainder)

-- the remainder after one more byte
abbrev pub after_byte : ℕ → ℕ → ℕ
after_byte remainder byte = times_power 8 (bit_xor remainder byte)

-- the remainder of bytes, begun with all bits set
abbrev pub remainder_of : List ℕ → ℕ
remainder_of bytes = fold after_byte 0xFFFFFFFF bytes

-- the CRC-32C of bytes
abbrev pub crc32c : List ℕ → ℕ
crc32c bytes = bit_xor (remainder_of bytes) 0xFFFFFFFF

-- these bytes were fed: the remainder is theirs
abbrev pub HasFed : ℕ → List ℕ → Type 0
HasFed crc fed = crc ≡ remainder_of fed
