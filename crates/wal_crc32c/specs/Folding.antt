-- Bytes by vectors: what the halves of bytes carry over.
use Rattle.std.specs.Prelude.{ℕ, ◌*◌, ◌/◌, ◌%◌, List, [], ◌∷◌, length, slice_index, fold}
use Rattle.std.specs.Int.Bits.{bit_xor}
use Rattle.wal_crc32c.specs.Crc32c.{times_power, after_byte}
use Rattle.wal_crc32c.specs.declared.folding.Six.{Six}

-- both halves of a byte, each looked up in a table of its own
abbrev pub pair_at : List ℕ → List ℕ → ℕ → ℕ
pair_at low high x = bit_xor (slice_index low (x % 16)) (slice_index high (x / 16))

-- the remainder of bytes alone
abbrev pub remainder : List ℕ → ℕ
remainder bytes = fold after_byte 0 bytes

-- what numbers leave together, each standing n bits before the next
unfoldable pub spread : ℕ → List ℕ → ℕ
spread n [] = 0
spread n (y ∷ ys) = bit_xor (times_power (n * length ys) y) (spread n ys)

-- the remainder of six vectors, one behind another
abbrev pub six_remainder : Six → ℕ
six_remainder six =
    spread 128 (remainder six.v0 ∷ remainder six.v1 ∷ remainder six.v2
    ∷ remainder six.v3 ∷ remainder six.v4 ∷ remainder six.v5 ∷ [])
