-- Laws of the remainder: it is linear over xor, and the bits that a shift leaves in place come out at the end.
use Rattle.std.proofs.Common.{◌≡◌, ℕ, zero, suc, ◌+◌, ◌*◌, ◌/◌, ◌%◌, ◌^◌, ◌<◌, refl, sym, ap, ◌∙◌, arith}
use Rattle.std.proofs.Math.Nat.{add-zero, add-suc, mul-div_cancel, mul-mod_left, mul-one, mul_assoc, pow-suc}
use Rattle.std.proofs.lemmas.Nat.{xor_shr, xor_mod, xor_comm, shr_split, pow_pos, mod_below}
use Rattle.std.specs.Int.Bits.{bit_xor, xor_assoc, xor_zero_r, xor_shifted}
use Rattle.wal_crc32c.specs.Crc32c.{times_x, times_power}

pub xor_cross : (a b c d : ℕ) → bit_xor (bit_xor a b) (bit_xor c d) ≡ bit_xor (bit_xor a c) (bit_xor b d)
xor_cross a b c d =
    xor_assoc a b (bit_xor c d)
    ∙ ap (bit_xor a) (sym (xor_assoc b c d) ∙ ap (λ x. bit_xor x d) (xor_comm b c) ∙ xor_assoc c b d)
    ∙ sym (xor_assoc a c (bit_xor b d))

-- the polynomial is taken off for one bit, for the other, or for neither
xor-polynomial : (x y : ℕ) → x < 2 → y < 2 → bit_xor x y * 0x82F63B78 ≡ bit_xor (x * 0x82F63B78) (y * 0x82F63B78)
xor-polynomial zero zero p q = refl
xor-polynomial zero (suc zero) p q = refl
xor-polynomial zero (suc (suc y)) p q = absurd (omega arith)
xor-polynomial (suc zero) zero p q = refl
xor-polynomial (suc zero) (suc zero) p q = refl
xor-polynomial (suc zero) (suc (suc y)) p q = absurd (omega arith)
xor-polynomial (suc (suc x)) y p q = absurd (omega arith)

times_x-xor : (a b : ℕ) → times_x (bit_xor a b) ≡ bit_xor (times_x a) (times_x b)
times_x-xor a b =
    ap (λ x. bit_xor x (bit_xor a b % 2 * 0x82F63B78)) (xor_shr a b 1)
    ∙ ap (λ x. bit_xor (bit_xor (a / 2) (b / 2)) (x * 0x82F63B78)) (xor_mod a b 1)
    ∙ ap (bit_xor (bit_xor (a / 2) (b / 2))) (xor-polynomial (a % 2) (b % 2) (mod_below a 2 (omega arith)) (mod_below b 2 (omega arith)))
    ∙ xor_cross (a / 2) (b / 2) (a % 2 * 0x82F63B78) (b % 2 * 0x82F63B78)

pub times_power-xor : (n a b : ℕ) → times_power n (bit_xor a b) ≡ bit_xor (times_power n a) (times_power n b)
unfolding times_power
times_power-xor zero a b = refl
times_power-xor (suc n) a b = ap (times_power n) (times_x-xor a b) ∙ times_power-xor n (times_x a) (times_x b)

times_x-double : (q : ℕ) → times_x (q * 2) ≡ q
times_x-double q =
    ap (λ x. bit_xor x (q * 2 % 2 * 0x82F63B78)) (mul-div_cancel q (omega arith))
    ∙ ap (λ x. bit_xor q (x * 0x82F63B78)) (mul-mod_left q 2)
    ∙ xor_zero_r q

-- n bits of 0 are shifted out
pub times_power-shifted : (n q : ℕ) → times_power n (q * 2 ^ n) ≡ q
unfolding times_power
times_power-shifted zero q = mul-one q
times_power-shifted (suc n) q =
    ap (λ x. times_power n (times_x (q * x))) (pow-suc 2 n)
    ∙ ap (λ x. times_power n (times_x x)) (sym (mul_assoc q (2 ^ n) 2))
    ∙ ap (times_power n) (times_x-double (q * 2 ^ n))
    ∙ times_power-shifted n q

pub xor-split : (n r : ℕ) → bit_xor (r % 2 ^ n) (r / 2 ^ n * 2 ^ n) ≡ r
xor-split n r =
    xor_comm (r % 2 ^ n) (r / 2 ^ n * 2 ^ n)
    ∙ xor_shifted (r / 2 ^ n) n (r % 2 ^ n) (mod_below r (2 ^ n) (pow_pos n))
    ∙ shr_split r n

-- only the n lowest bits meet the polynomial
pub times_power-split : (n r : ℕ) → times_power n r ≡ bit_xor (times_power n (r % 2 ^ n)) (r / 2 ^ n)
times_power-split n r =
    ap (times_power n) (sym (xor-split n r))
    ∙ times_power-xor n (r % 2 ^ n) (r / 2 ^ n * 2 ^ n)
    ∙ ap (bit_xor (times_power n (r % 2 ^ n))) (times_power-shifted n (r / 2 ^ n))

pub times_power-add : (m n r : ℕ) → times_power (m + n) r ≡ times_power m (times_power n r)
unfolding times_power
times_power-add m zero r = ap (λ k. times_power k r) (add-zero m)
times_power-add m (suc n) r = ap (λ k. times_power k r) (add-suc m n) ∙ times_power-add m n (times_x r)
