-- A bit of a byte, as the code tests it.
use Rattle.std.proofs.Common.{◌≡◌, ℕ, ◌/◌, ◌%◌, ◌<◌, eqb, leb, ltb, not, refl}
use Rattle.std.specs.Int.Bits.{bit_and}
use Rattle.std.proofs.lemmas.Bool.{agree_below_at}
use Rattle.std.proofs.lemmas.Nat.{and_mask}
use Rattle.wal_record.specs.declared.head.ForkFlags.{ForkFlags}
use Rattle.wal_record.specs.declared.head.ImageFlags.{ImageFlags}
use Rattle.wal_record.specs.Reading.{fork_flags, image_flags}

has_image_bit : (b : ℕ) → b < 256 → not (eqb (bit_and b 16) 0) ≡ eqb (b / 16 % 2) 1
has_image_bit b lt = agree_below_at (λ b. not (eqb (bit_and b 16) 0)) (λ b. eqb (b / 16 % 2) 1) 256 b refl lt

has_data_bit : (b : ℕ) → b < 256 → not (eqb (bit_and b 32) 0) ≡ eqb (b / 32 % 2) 1
has_data_bit b lt = agree_below_at (λ b. not (eqb (bit_and b 32) 0)) (λ b. eqb (b / 32 % 2) 1) 256 b refl lt

will_init_bit : (b : ℕ) → b < 256 → not (eqb (bit_and b 64) 0) ≡ eqb (b / 64 % 2) 1
will_init_bit b lt = agree_below_at (λ b. not (eqb (bit_and b 64) 0)) (λ b. eqb (b / 64 % 2) 1) 256 b refl lt

same_bit : (b : ℕ) → b < 256 → not (eqb (bit_and b 128) 0) ≡ eqb (b / 128 % 2) 1
same_bit b lt = agree_below_at (λ b. not (eqb (bit_and b 128) 0)) (λ b. eqb (b / 128 % 2) 1) 256 b refl lt

hole_bit : (b : ℕ) → b < 256 → not (eqb (bit_and b 1) 0) ≡ eqb (b % 2) 1
hole_bit b lt = agree_below_at (λ b. not (eqb (bit_and b 1) 0)) (λ b. eqb (b % 2) 1) 256 b refl lt

apply_bit : (b : ℕ) → b < 256 → not (eqb (bit_and b 2) 0) ≡ eqb (b / 2 % 2) 1
apply_bit b lt = agree_below_at (λ b. not (eqb (bit_and b 2) 0)) (λ b. eqb (b / 2 % 2) 1) 256 b refl lt

compressed_bits : (b : ℕ) → b < 256 → not (eqb (bit_and b 28) 0) ≡ ltb 0 (b / 4 % 8)
compressed_bits b lt = agree_below_at (λ b. not (eqb (bit_and b 28) 0)) (λ b. ltb 0 (b / 4 % 8)) 256 b refl lt

unknown_bits : (b : ℕ) → b < 256 → not (eqb (bit_and b 224) 0) ≡ leb 32 b
unknown_bits b lt = agree_below_at (λ b. not (eqb (bit_and b 224) 0)) (λ b. leb 32 b) 256 b refl lt

pub fork_flags-bits : (b : ℕ) → b < 256 → (let flags : ForkFlags = record { fork = bit_and b 15; has_image = not (eqb (bit_and b 16) 0); has_data = not (eqb (bit_and b 32) 0); will_init = not (eqb (bit_and b 64) 0); same = not (eqb (bit_and b 128) 0) } in flags ≡ fork_flags b)
fork_flags-bits b lt = rw (and_mask b 4, has_image_bit b lt, has_data_bit b lt, will_init_bit b lt, same_bit b lt) refl

pub image_flags-bits : (b : ℕ) → b < 256 → (let flags : ImageFlags = record { has_hole = not (eqb (bit_and b 1) 0); apply = not (eqb (bit_and b 2) 0); compressed = not (eqb (bit_and b 28) 0); unknown = not (eqb (bit_and b 224) 0) } in flags ≡ image_flags b)
image_flags-bits b lt = rw (hole_bit b lt, apply_bit b lt, compressed_bits b lt, unknown_bits b lt) refl
