-- Laws of the sizes of segments, for the proofs of this crate and of those above.
use Rattle.std.proofs.Common.{◌≡◌, ℕ, ◌+◌, ◌-◌, ◌*◌, ◌^◌, ◌<◌, ◌≤◌, true, ◌&&◌, eqb, leb, List, [], ◌∷◌, refl, sym, ap, subst, ◌∙◌, inl, inr, arith}
use Rattle.std.specs.List.{list_any, list_all}
use Rattle.std.specs.Int.{is_power_of_two}
use Rattle.std.specs.Int.Count.{ones}
use Rattle.std.proofs.lemmas.Bool.{or_cases, and_parts, eqb-true, eq-eqb, leb-true, false≢true, agree_below_at, cases_lt}
use Rattle.std.proofs.lemmas.Nat.{leading_top, pow-add, ones_cat, zero_from_ones, pow_below, pow_pos}
use Rattle.std.proofs.Math.Nat.{pow-suc}
use Rattle.std.proofs.Math.Pow.{pow_mono}
use Rattle.byte_position.specs.Geometry.{IsSegmentSize, is_segment_size, pages_of}

-- a power of two that is tested for is one of the tested ones
tested_power : (ks : List ℕ) (size : ℕ) → list_all (λ k. leb 20 k && leb k 30) ks ≡ true → list_any (λ k. eqb size (2 ^ k)) ks ≡ true → (k : ℕ) × (20 ≤ k) × (k ≤ 30) × (size ≡ 2 ^ k)
tested_power [] size a h = absurd (false≢true h)
tested_power (k ∷ ks) size a h =
    let p = and_parts (leb 20 k && leb k 30) (list_all (λ j. leb 20 j && leb j 30) ks) a in
    let b = and_parts (leb 20 k) (leb k 30) p.0 in
    elim (or_cases (eqb size (2 ^ k)) (list_any (λ j. eqb size (2 ^ j)) ks) h) [ inl e ↦ (k, leb-true 20 k b.0, leb-true k 30 b.1, eqb-true size (2 ^ k) e) | inr t ↦ tested_power ks size p.1 t ]

-- a segment's size is a power of two, from 2 ^ 20 to 2 ^ 30
pub segment_size_is_power : (size : ℕ) → IsSegmentSize size → (k : ℕ) × (20 ≤ k) × (k ≤ 30) × (size ≡ 2 ^ k)
segment_size_is_power size h =
    tested_power (20 ∷ 21 ∷ 22 ∷ 23 ∷ 24 ∷ 25 ∷ 26 ∷ 27 ∷ 28 ∷ 29 ∷ 30 ∷ []) size refl h

-- each of these powers is a segment's size
pub IsSegmentSize-pow : (k : ℕ) → 20 ≤ k → k ≤ 30 → IsSegmentSize (2 ^ k)
IsSegmentSize-pow k b c =
    let at = agree_below_at (λ i. is_segment_size (2 ^ (20 + i))) (λ _. true) 11 (k - 20) refl (omega arith) in
    let e : 20 + (k - 20) ≡ k = omega arith in
    subst (λ (j : ℕ). IsSegmentSize (2 ^ j)) e at

-- a number with one bit set is a power of two
power_from_ones : (n k : ℕ) → 0 < n → n < 2 ^ k → ones n ≡ 1 → (j : ℕ) × (n ≡ 2 ^ j)
unfolding ones
power_from_ones n k p b h =
    let top = leading_top k n p b in
    let j = top.0 in
    let low : n - 2 ^ j < 2 ^ j = omega (arith, top.2, top.3, pow-suc 2 j) in
    let split : 1 * 2 ^ j + (n - 2 ^ j) ≡ n = omega (arith, top.2) in
    let counted : ones (1 * 2 ^ j + (n - 2 ^ j)) ≡ 1 + ones (n - 2 ^ j) = ones_cat j 1 (n - 2 ^ j) low in
    let none : ones (n - 2 ^ j) ≡ 0 = omega (arith, counted, rw split at counted) in
    let rest : n - 2 ^ j ≡ 0 = zero_from_ones (n - 2 ^ j) none in
    (j, omega (arith, rest, split))

-- a power of two in that range is a segment's size
pub IsSegmentSize-from_power : (size : ℕ) → is_power_of_two size ≡ true → 2 ^ 20 ≤ size → size ≤ 2 ^ 30 → IsSegmentSize size
IsSegmentSize-from_power size h b c =
    let power = power_from_ones size 31 (omega arith) (omega arith) (eqb-true (ones size) 1 h) in
    let k = power.0 in
    let low : 20 ≤ k = elim (cases_lt k 20) [ inl l ↦ absurd (omega (arith, pow_below k 20 l, power.1)) | inr g ↦ g ] in
    let high : k ≤ 30 = elim (cases_lt 30 k) [ inl l ↦ absurd (omega (arith, pow_below 30 k l, power.1)) | inr g ↦ g ] in
    subst (λ (n : ℕ). IsSegmentSize n) (sym power.1) (IsSegmentSize-pow k low high)

ones-pow : (k : ℕ) → ones (2 ^ k) ≡ 1
unfolding ones
ones-pow k =
    let e : 1 * 2 ^ k + 0 ≡ 2 ^ k = omega arith in
    ap ones (sym e) ∙ ones_cat k 1 0 (pow_pos k)

-- a segment's size has one bit set, and is in that range
pub segment_size_tests : (size : ℕ) → IsSegmentSize size → (is_power_of_two size ≡ true) × (2 ^ 20 ≤ size) × (size ≤ 2 ^ 30)
segment_size_tests size h =
    let power = segment_size_is_power size h in
    let low : 2 ^ 20 ≤ 2 ^ power.0 = pow_mono power.1 in
    let high : 2 ^ power.0 ≤ 2 ^ 30 = pow_mono power.2 in
    (eq-eqb (ones size) 1 (ap ones power.3 ∙ ones-pow power.0), omega (arith, power.3), omega (arith, power.3))

-- a segment has at least 128 pages, and ends where a page does
pub segment_size_in_pages : (size : ℕ) → IsSegmentSize size → (size ≡ 8192 * pages_of size) × (128 ≤ pages_of size) × (pages_of size ≤ 131072)
segment_size_in_pages size h =
    let power = segment_size_is_power size h in
    let k = power.0 in
    let parts : 2 ^ k ≡ 2 ^ (k - 13) * 2 ^ 13 = ap (λ (j : ℕ). 2 ^ j) (omega (arith, power.1)) ∙ pow-add 2 (k - 13) 13 in
    let tests = segment_size_tests size h in
    (omega (arith, power.3, parts), omega (arith, tests.1), omega (arith, tests.2))
