-- The test for a flag, which is one bit of a number.
use Rattle.std.proofs.Common.{◌≡◌, ℕ, suc, zero, ◌*◌, ◌/◌, ◌%◌, ◌^◌, ◌<◌, not, eqb, bit_and, ap, ◌∙◌, arith}
use Rattle.std.proofs.lemmas.Bool.Decides.{nat_tests}
use Rattle.std.proofs.lemmas.Nat.{pow_pos}
use Rattle.std.proofs.lemmas.Nat.Bits.{and_pow, bit_at-lt}

bit_test : (b m : ℕ) → b < 2 → 0 < m → not (eqb (b * m) 0) ≡ eqb b 1
bit_test zero m h p = grind (arith, nat_tests)
bit_test (suc zero) m h p = grind (arith, nat_tests)
bit_test (suc (suc b)) m h p = absurd (omega arith)

pub flag_test : (n k : ℕ) → not (eqb (bit_and n (2 ^ k)) 0) ≡ eqb (n / 2 ^ k % 2) 1
flag_test n k = ap (λ (m : ℕ). not (eqb m 0)) (and_pow n k) ∙ bit_test (n / 2 ^ k % 2) (2 ^ k) (bit_at-lt n k) (pow_pos k)
