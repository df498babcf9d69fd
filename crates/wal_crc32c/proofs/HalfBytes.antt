-- What the tables of half bytes carry over.
use Rattle.std.proofs.Common.{◌≡◌, ℕ, zero, suc, ◌+◌, ◌-◌, ◌*◌, ◌/◌, ◌%◌, ◌<◌, Bool, true, ◌&&◌, eqb, List, [], ◌∷◌, map, length, get_or, refl, sym, ap, ◌∙◌, arith, w8, Fits}
use Rattle.std.proofs.lemmas.List.{length-map}
use Rattle.std.proofs.lemmas.Bool.{eqb-true}
use Rattle.std.specs.Int.Bits.{bit_xor, xor_zero_r}
use lib.Lanes.{Each1}
use Rattle.wal_crc32c.specs.Crc32c.{times_power}
use Rattle.wal_crc32c.specs.Folding.{pair_at, remainder, spread}
use Rattle.wal_crc32c.specs.declared.carries.TheConstants.{CARRIES}
use Rattle.wal_crc32c.proofs.Lookups.{both_true}
use Rattle.wal_crc32c.proofs.Remainders.{times_power-xor, xor-split}
use Rattle.wal_crc32c.proofs.Spread.{powers_swap, remainder-spread, spread-power, spread-xor, times_power-zero}

-- four numbers at the places of the vectors that are carried onto
abbrev pub four : ℕ → ℕ → ℕ → ℕ → ℕ
four a b c d = spread 128 (a ∷ b ∷ 0 ∷ c ∷ 0 ∷ d ∷ [])

four-xor : (a b c d a' b' c' d' : ℕ) → four (bit_xor a a') (bit_xor b b') (bit_xor c c') (bit_xor d d') ≡ bit_xor (four a b c d) (four a' b' c' d')
four-xor a b c d a' b' c' d' = spread-xor 128 (a ∷ b ∷ 0 ∷ c ∷ 0 ∷ d ∷ []) (a' ∷ b' ∷ 0 ∷ c' ∷ 0 ∷ d' ∷ []) refl

four-power : (n a b c d : ℕ) → four (times_power n a) (times_power n b) (times_power n c) (times_power n d) ≡ times_power n (four a b c d)
four-power n a b c d =
    ap (λ z. spread 128 (times_power n a ∷ times_power n b ∷ z ∷ times_power n c ∷ z ∷ times_power n d ∷ [])) (sym (times_power-zero n))
    ∙ spread-power 128 n (a ∷ b ∷ 0 ∷ c ∷ 0 ∷ d ∷ [])

-- what a table of vector k has for a half of a byte
abbrev pub entry : ℕ → ℕ → ℕ → ℕ
entry k i half = get_or (get_or (get_or CARRIES k []) i []) half 0

-- whether four tables from i on carry a half of a byte, in units, over from vector k
carries : ℕ → ℕ → ℕ → ℕ → Bool
carries k i unit half =
    eqb (times_power 8 (four (entry k i half) (entry k (i + 1) half) (entry k (i + 2) half) (entry k (i + 3) half))) (times_power (1408 - 128 * k) (times_power 8 (half * unit)))

unfoldable pub every : (ℕ → Bool) → ℕ → Bool
every p zero = true
every p (suc n) = p zero && every (λ i. p (suc i)) n

pub at_every : (p : ℕ → Bool) (n : ℕ) → every p n ≡ true → (i : ℕ) → i < n → p i ≡ true
unfolding every
at_every p zero all i within = absurd (omega arith)
at_every p (suc n) all zero within = (both_true _ _ all).0
at_every p (suc n) all (suc i) within = at_every (λ i. p (suc i)) n (both_true _ _ all).1 i (omega arith)

halves_carry : ℕ → Bool
halves_carry k = every (carries k 0 1) 16 && every (carries k 4 16) 16

all_carry : every halves_carry 6 ≡ true
unfolding times_power spread carries every halves_carry
all_carry = refl

half_carried : (k i unit half : ℕ) → carries k i unit half ≡ true
    → times_power 8 (four (entry k i half) (entry k (i + 1) half) (entry k (i + 2) half) (entry k (i + 3) half)) ≡ times_power (1408 - 128 * k) (times_power 8 (half * unit))
unfolding carries
half_carried k i unit half carry = eqb-true _ _ carry

-- both halves of a byte, by table i and the fourth one behind it
abbrev pub looked_up : ℕ → ℕ → ℕ → ℕ
looked_up k i = pair_at (get_or (get_or CARRIES k []) i []) (get_or (get_or CARRIES k []) (i + 4) [])

byte_carried : (k : ℕ) → k < 6 → (x : ℕ) → x < 256
    → times_power 8 (four (looked_up k 0 x) (looked_up k 1 x) (looked_up k 2 x) (looked_up k 3 x)) ≡ times_power (1408 - 128 * k) (times_power 8 x)
unfolding halves_carry
byte_carried k within x small =
    let bits = 1408 - 128 * k in
    let l = x % 16 in
    let h = x / 16 in
    let halves = both_true _ _ (at_every halves_carry 6 all_carry k within) in
    let low = half_carried k 0 1 l (at_every (carries k 0 1) 16 halves.0 l (omega arith)) in
    let high = half_carried k 4 16 h (at_every (carries k 4 16) 16 halves.1 h (omega arith)) in
    let four_low = four (entry k 0 l) (entry k 1 l) (entry k 2 l) (entry k 3 l) in
    let four_high = four (entry k 4 h) (entry k 5 h) (entry k 6 h) (entry k 7 h) in
    let whole : bit_xor (l * 1) (h * 16) ≡ x = ap (λ y. bit_xor y (h * 16)) (omega arith) ∙ xor-split 4 x in
    ap (times_power 8) (four-xor (entry k 0 l) (entry k 1 l) (entry k 2 l) (entry k 3 l) (entry k 4 h) (entry k 5 h) (entry k 6 h) (entry k 7 h))
    ∙ times_power-xor 8 four_low four_high
    ∙ ap (λ y. bit_xor y (times_power 8 four_high)) low
    ∙ ap (bit_xor (times_power bits (times_power 8 (l * 1)))) high
    ∙ sym (times_power-xor bits (times_power 8 (l * 1)) (times_power 8 (h * 16)))
    ∙ ap (times_power bits) (sym (times_power-xor 8 (l * 1) (h * 16)) ∙ ap (times_power 8) whole)

-- what the bytes of a vector leave, looked up each
looked_up_all : (f : ℕ → ℕ) (x : ℕ) (xs : List ℕ) → spread 8 (map f (x ∷ xs)) ≡ bit_xor (times_power (8 * length xs) (f x)) (spread 8 (map f xs))
unfolding spread
looked_up_all f x xs = ap (λ n. bit_xor (times_power (8 * n) (f x)) (spread 8 (map f xs))) (length-map xs f)

bytes_carried : (k : ℕ) → k < 6 → (v : List ℕ) → Each1 (Fits w8) v
    → times_power 8 (four (spread 8 (map (looked_up k 0) v)) (spread 8 (map (looked_up k 1) v)) (spread 8 (map (looked_up k 2) v)) (spread 8 (map (looked_up k 3) v))) ≡ times_power (1408 - 128 * k) (times_power 8 (spread 8 v))
unfolding spread times_power
bytes_carried k within [] fits = sym (times_power-zero (1408 - 128 * k))
bytes_carried k within (x ∷ xs) fits =
    let bits = 1408 - 128 * k in
    let n = 8 * length xs in
    let of_first = four (looked_up k 0 x) (looked_up k 1 x) (looked_up k 2 x) (looked_up k 3 x) in
    let rest = λ (i : ℕ). spread 8 (map (looked_up k i) xs) in
    let first = λ (i : ℕ). times_power n (looked_up k i x) in
    let of_rest = four (rest 0) (rest 1) (rest 2) (rest 3) in
    rw (looked_up_all (looked_up k 0) x xs, looked_up_all (looked_up k 1) x xs, looked_up_all (looked_up k 2) x xs, looked_up_all (looked_up k 3) x xs)
    (ap (times_power 8) (four-xor (first 0) (first 1) (first 2) (first 3) (rest 0) (rest 1) (rest 2) (rest 3) ∙ ap (λ y. bit_xor y of_rest) (four-power n (looked_up k 0 x) (looked_up k 1 x) (looked_up k 2 x) (looked_up k 3 x)))
    ∙ times_power-xor 8 (times_power n of_first) of_rest
    ∙ ap (bit_xor (times_power 8 (times_power n of_first))) (bytes_carried k within xs fits.1)
    ∙ ap (λ y. bit_xor y (times_power bits (times_power 8 (spread 8 xs))))
    (powers_swap 8 n of_first ∙ ap (times_power n) (byte_carried k within x fits.0.fits) ∙ powers_swap n bits (times_power 8 x) ∙ ap (times_power bits) (powers_swap n 8 x))
    ∙ sym (times_power-xor bits (times_power 8 (times_power n x)) (times_power 8 (spread 8 xs)))
    ∙ ap (times_power bits) (sym (times_power-xor 8 (times_power n x) (spread 8 xs))))

vector_carried : (k : ℕ) → k < 6 → (v : List ℕ) → Each1 (Fits w8) v
    → four (remainder (map (looked_up k 0) v)) (remainder (map (looked_up k 1) v)) (remainder (map (looked_up k 2) v)) (remainder (map (looked_up k 3) v)) ≡ times_power (1408 - 128 * k) (remainder v)
vector_carried k within v fits =
    let of = λ (i : ℕ). map (looked_up k i) v in
    rw (remainder-spread (of 0), remainder-spread (of 1), remainder-spread (of 2), remainder-spread (of 3), remainder-spread v)
    (four-power 8 (spread 8 (of 0)) (spread 8 (of 1)) (spread 8 (of 2)) (spread 8 (of 3)) ∙ bytes_carried k within v fits)

-- a vector carried over onto four of six
pub carried_over : (k : ℕ) → k < 6 → (v : List ℕ) → Each1 (Fits w8) v → (w0 w1 w2 w3 w4 w5 : ℕ)
    → spread 128 (bit_xor w0 (remainder (map (looked_up k 0) v)) ∷ bit_xor w1 (remainder (map (looked_up k 1) v)) ∷ w2 ∷ bit_xor w3 (remainder (map (looked_up k 2) v)) ∷ w4 ∷ bit_xor w5 (remainder (map (looked_up k 3) v)) ∷ [])
    ≡ bit_xor (spread 128 (w0 ∷ w1 ∷ w2 ∷ w3 ∷ w4 ∷ w5 ∷ [])) (times_power (1408 - 128 * k) (remainder v))
carried_over k within v fits w0 w1 w2 w3 w4 w5 =
    let of = λ (i : ℕ). remainder (map (looked_up k i) v) in
    let all = w0 ∷ w1 ∷ w2 ∷ w3 ∷ w4 ∷ w5 ∷ [] in
    ap (λ y. spread 128 (bit_xor w0 (of 0) ∷ bit_xor w1 (of 1) ∷ y ∷ bit_xor w3 (of 2) ∷ w4 ∷ bit_xor w5 (of 3) ∷ [])) (sym (xor_zero_r w2))
    ∙ ap (λ y. spread 128 (bit_xor w0 (of 0) ∷ bit_xor w1 (of 1) ∷ bit_xor w2 0 ∷ bit_xor w3 (of 2) ∷ y ∷ bit_xor w5 (of 3) ∷ [])) (sym (xor_zero_r w4))
    ∙ spread-xor 128 all (of 0 ∷ of 1 ∷ 0 ∷ of 2 ∷ 0 ∷ of 3 ∷ []) refl
    ∙ ap (bit_xor (spread 128 all)) (vector_carried k within v fits)
