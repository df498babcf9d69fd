-- Which segments have an address of 64 bits.
use Rattle.std.proofs.Common.{◌≡◌, ℕ, ◌+◌, ◌-◌, ◌*◌, ◌/◌, ◌^◌, ◌<◌, ◌≤◌, arith, sym, ap, ◌∙◌, subst}
use Rattle.std.proofs.Math.Nat.{div-lt_iff_lt-mul, div-mul-le_self, le-div_iff_mul-le, le_trans, lt_of_le_of_lt, mul-div_cancel, mul-le-mul_left, mul_assoc}
use Rattle.std.proofs.lemmas.Nat.{pow-add, pow_pos}
use Rattle.byte_position.specs.Geometry.{IsSegmentSize, pages_of}
use Rattle.byte_position.proofs.SegmentSizes.{segment_size_is_power}

in_words : (k : ℕ) → k ≤ 30 → 2 ^ 64 ≡ 2 ^ (64 - k) * 2 ^ k
in_words k high = let all : 64 ≡ 64 - k + k = omega (arith, high) in
    ap (λ (n : ℕ). 2 ^ n) all ∙ pow-add 2 (64 - k) k

below : (q n written segment : ℕ) → 0 < n → written < q * n → segment ≤ written / n
    → segment < q * n / n
below q n written segment some low within = subst (λ (m : ℕ). segment < m)
    (sym (mul-div_cancel q some))
    (lt_of_le_of_lt within ((div-lt_iff_lt-mul some).1 low))

pub has_low_number : (size written segment : ℕ) → IsSegmentSize size → written < 2 ^ 64
    → segment ≤ written / size → segment < 2 ^ 64 / size
has_low_number size written segment valid low within =
    let power = segment_size_is_power size valid in
    let k : ℕ = power.0 in
    let words : 2 ^ 64 ≡ 2 ^ (64 - k) * 2 ^ k = in_words k power.2 in
    subst (λ (n : ℕ). segment < 2 ^ 64 / n) (sym power.3)
    (subst (λ (m : ℕ). segment < m / 2 ^ k) (sym words)
    (below (2 ^ (64 - k)) (2 ^ k) written segment (pow_pos k)
    (subst (λ (m : ℕ). written < m) words low)
    (subst (λ (n : ℕ). segment ≤ written / n) power.3 within)))

pub starts_in_pages : (size written segment : ℕ) → segment * size ≤ written
    → segment * pages_of size ≤ written / 8192
starts_in_pages size written segment begun =
    (le-div_iff_mul-le (omega arith)).1 (subst (λ (n : ℕ). n ≤ written)
    (sym (mul_assoc segment (size / 8192) 8192))
    (le_trans (mul-le-mul_left segment (div-mul-le_self size 8192)) begun))
