-- A CRC of bytes has 32 bits.
use Rattle.std.proofs.Common.{ℕ, zero, suc, ◌*◌, ◌/◌, ◌%◌, ◌^◌, ◌<◌, List, [], ◌∷◌, All, fold, arith}
use Rattle.std.specs.Int.Bits.{bit_xor}
use Rattle.std.specs.List.{AllByRecursion}
use Rattle.std.proofs.lemmas.Nat.{xor_lt}
use Rattle.std.proofs.lemmas.List.Elements.{recursion_from_All}
use Rattle.wal_crc32c.specs.Crc32c.{times_x, times_power, after_byte, remainder_of, crc32c}

times_x_below : (remainder : ℕ) → remainder < 2 ^ 32 → times_x remainder < 2 ^ 32
times_x_below remainder lt = xor_lt 32 (remainder / 2) (remainder % 2 * 0x82F63B78) (omega arith) (omega arith)

times_power_below : (n remainder : ℕ) → remainder < 2 ^ 32 → times_power n remainder < 2 ^ 32
unfolding times_power
times_power_below zero remainder lt = lt
times_power_below (suc n) remainder lt = times_power_below n (times_x remainder) (times_x_below remainder lt)

fold_below : (bytes : List ℕ) (remainder : ℕ) → remainder < 2 ^ 32 → AllByRecursion (λ b. b < 256) bytes → fold after_byte remainder bytes < 2 ^ 32
fold_below [] remainder lt fits = lt
fold_below (b ∷ bs) remainder lt fits = fold_below bs (after_byte remainder b) (times_power_below 8 (bit_xor remainder b) (xor_lt 32 remainder b lt (omega (arith, fits.0)))) fits.1

pub crc32c_below : (bytes : List ℕ) → All (λ b. b < 256) bytes → crc32c bytes < 2 ^ 32
crc32c_below bytes fits = xor_lt 32 (remainder_of bytes) 0xFFFFFFFF (fold_below bytes 0xFFFFFFFF (omega arith) (recursion_from_All (λ b. b < 256) bytes fits)) (omega arith)
