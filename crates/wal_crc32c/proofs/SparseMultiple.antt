-- Bytes taken away by the multiple of few terms: what they leave, the others leave that they are put on.
use Rattle.std.proofs.Common.{◌≡◌, ℕ, zero, suc, ◌+◌, ◌-◌, ◌*◌, ◌/◌, ◌%◌, ◌<◌, ◌≤◌, Bool, true, ◌&&◌, eqb, List, [], ◌∷◌, ◌++◌, length, map, take, drop, fold, replicate, refl, subst, sym, ap, ◌∙◌, arith, w8, Fits}
use Rattle.std.proofs.lemmas.Bool.{eqb-true}
use Rattle.std.proofs.lemmas.List.{length-take-le, length-drop, drop-drop, drop-take, drop-append-le, drop_at, take-take, take-append-drop, take-replicate, append_assoc, replicate-append-replicate}
use Rattle.std.proofs.lemmas.List.Sums.{fold-append}
use Rattle.std.proofs.lemmas.Nat.{xor_comm}
use Rattle.std.proofs.lemmas.Simd.{chunk-drop, length-chunk, length-replicate, length-zip2, Each1-weaker, take_more_put_chunk, put_chunk_is}
use Rattle.std.specs.Int.Bits.{bit_xor, xor_assoc, xor_zero_r}
use lib.Lanes.{Each1, zip2, chunk, put_chunk}
use Rattle.wal_crc32c.specs.Crc32c.{times_power, after_byte}
use Rattle.wal_crc32c.specs.Folding.{remainder}
use Rattle.wal_crc32c.specs.SparseMultiple.{terms, over, put_on, CarriesOn}
use Rattle.wal_crc32c.proofs.HalfBytes.{every, at_every}
use Rattle.wal_crc32c.proofs.Lookups.{both_true}
use Rattle.wal_crc32c.proofs.Remainders.{times_power-add, times_power-xor, xor-split, xor_cross}
use Rattle.wal_crc32c.proofs.Spread.{fold-remainder, remainder-xor, powers_swap, times_power-zero, zero_xor}

-- ---- over terms

over-same : (f g : ℕ → ℕ) (ks : List ℕ) → Each1 (λ k. f k ≡ g k) ks → over ks f ≡ over ks g
unfolding over
over-same f g [] same = refl
over-same f g (k ∷ ks) same = ap (λ x. bit_xor x (over ks f)) same.0 ∙ ap (bit_xor (g k)) (over-same f g ks same.1)

over-xor : (f g : ℕ → ℕ) (ks : List ℕ) → over ks (λ k. bit_xor (f k) (g k)) ≡ bit_xor (over ks f) (over ks g)
unfolding over
over-xor f g [] = refl
over-xor f g (k ∷ ks) =
    ap (bit_xor (bit_xor (f k) (g k))) (over-xor f g ks)
    ∙ xor_cross (f k) (g k) (over ks f) (over ks g)

over-power : (n : ℕ) (f : ℕ → ℕ) (ks : List ℕ) → over ks (λ k. times_power n (f k)) ≡ times_power n (over ks f)
unfolding over
over-power n f [] = sym (times_power-zero n)
over-power n f (k ∷ ks) =
    ap (bit_xor (times_power n (f k))) (over-power n f ks)
    ∙ sym (times_power-xor n (f k) (over ks f))

-- one after another
over-each : (f : ℕ → ℕ) (r : ℕ) (ks : List ℕ) → fold (λ s k. bit_xor s (f k)) r ks ≡ bit_xor r (over ks f)
unfolding over
over-each f r [] = sym (xor_zero_r r)
over-each f r (k ∷ ks) = over-each f (bit_xor r (f k)) ks ∙ xor_assoc r (f k) (over ks f)

-- ---- the multiple

over_terms : ℕ → ℕ
over_terms r = over terms (λ k. times_power (8 * k) r)

-- whether 209 bytes on a half of a byte, in units, leaves what it leaves at each term
is_multiple : ℕ → ℕ → Bool
is_multiple unit half = eqb (times_power 1672 (half * unit)) (over_terms (half * unit))

all_multiples : (every (is_multiple 1) 16 && every (is_multiple 16) 16) ≡ true
unfolding times_power over over_terms is_multiple every
all_multiples = refl

multiple-half : (unit half : ℕ) → is_multiple unit half ≡ true → times_power 1672 (half * unit) ≡ over_terms (half * unit)
unfolding is_multiple
multiple-half unit half is = eqb-true _ _ is

over_terms-xor : (a b : ℕ) → over_terms (bit_xor a b) ≡ bit_xor (over_terms a) (over_terms b)
unfolding over_terms
over_terms-xor a b =
    over-same (λ k. times_power (8 * k) (bit_xor a b)) (λ k. bit_xor (times_power (8 * k) a) (times_power (8 * k) b)) terms
    (times_power-xor 1152 a b, (times_power-xor 432 a b, (times_power-xor 312 a b, (times_power-xor 112 a b, (times_power-xor 0 a b, tt)))))
    ∙ over-xor (λ k. times_power (8 * k) a) (λ k. times_power (8 * k) b) terms

over_terms-power : (n r : ℕ) → over_terms (times_power n r) ≡ times_power n (over_terms r)
unfolding over_terms
over_terms-power n r =
    over-same (λ k. times_power (8 * k) (times_power n r)) (λ k. times_power n (times_power (8 * k) r)) terms
    (powers_swap 1152 n r, (powers_swap 432 n r, (powers_swap 312 n r, (powers_swap 112 n r, (powers_swap 0 n r, tt)))))
    ∙ over-power n (λ k. times_power (8 * k) r) terms

multiple-byte : (x : ℕ) → x < 256 → times_power 1672 x ≡ over_terms x
multiple-byte x small =
    let l = x % 16 in
    let h = x / 16 in
    let halves = both_true _ _ all_multiples in
    let low = multiple-half 1 l (at_every (is_multiple 1) 16 halves.0 l (omega arith)) in
    let high = multiple-half 16 h (at_every (is_multiple 16) 16 halves.1 h (omega arith)) in
    let whole : bit_xor (l * 1) (h * 16) ≡ x = ap (λ y. bit_xor y (h * 16)) (omega arith) ∙ xor-split 4 x in
    ap (times_power 1672) (sym whole)
    ∙ times_power-xor 1672 (l * 1) (h * 16)
    ∙ ap (λ y. bit_xor y (times_power 1672 (h * 16))) low
    ∙ ap (bit_xor (over_terms (l * 1))) high
    ∙ sym (over_terms-xor (l * 1) (h * 16))
    ∙ ap over_terms whole

-- what bytes leave, 209 bytes on
multiple-bytes : (v : List ℕ) → Each1 (Fits w8) v → times_power 1672 (remainder v) ≡ over_terms (remainder v)
unfolding times_power over over_terms
multiple-bytes [] fits = refl
multiple-bytes (x ∷ xs) fits =
    let n = 8 * length xs in
    let first = times_power n (times_power 8 x) in
    let split : remainder (x ∷ xs) ≡ bit_xor first (remainder xs) = fold-remainder (after_byte 0 x) xs ∙ ap (λ y. bit_xor (times_power n (times_power 8 y)) (remainder xs)) (zero_xor x) in
    let of_first : times_power 1672 first ≡ over_terms first =
    powers_swap 1672 n (times_power 8 x)
    ∙ ap (times_power n) (powers_swap 1672 8 x ∙ ap (times_power 8) (multiple-byte x fits.0.fits) ∙ sym (over_terms-power 8 x))
    ∙ sym (over_terms-power n (times_power 8 x)) in
    ap (times_power 1672) split
    ∙ times_power-xor 1672 first (remainder xs)
    ∙ ap (λ y. bit_xor y (times_power 1672 (remainder xs))) of_first
    ∙ ap (bit_xor (over_terms first)) (multiple-bytes xs fits.1)
    ∙ sym (over_terms-xor first (remainder xs))
    ∙ ap over_terms (sym split)

-- ---- bytes one behind another

pub remainder-append : (xs ys : List ℕ) → remainder (xs ++ ys) ≡ bit_xor (times_power (8 * length ys) (remainder xs)) (remainder ys)
remainder-append xs ys = fold-append after_byte 0 xs ys ∙ fold-remainder (remainder xs) ys

remainder-zeros : (n : ℕ) → remainder (replicate n 0) ≡ 0
unfolding times_power
remainder-zeros zero = refl
remainder-zeros (suc n) = remainder-zeros n

all_xored : (v : List ℕ) (vs : List (List ℕ)) → Each1 (λ w. length v ≡ length w) vs → remainder (fold (zip2 bit_xor) v vs) ≡ fold (λ s w. bit_xor s (remainder w)) (remainder v) vs
all_xored v [] same = refl
all_xored v (w ∷ vs) same =
    all_xored (zip2 bit_xor v w) vs (Each1-weaker (λ u. length v ≡ length u) (λ u. length (zip2 bit_xor v w) ≡ length u) (λ u e. length-zip2 bit_xor v w same.0 ∙ e) vs same.1)
    ∙ ap (λ r. fold (λ s w. bit_xor s (remainder w)) r vs) (remainder-xor v w same.0)

xor_swap : (x y z : ℕ) → bit_xor x (bit_xor y z) ≡ bit_xor y (bit_xor x z)
xor_swap x y z = sym (xor_assoc x y z) ∙ ap (λ w. bit_xor w z) (xor_comm x y) ∙ xor_assoc y x z

xor_behind_two : (x a b z : ℕ) → bit_xor x (bit_xor a (bit_xor b z)) ≡ bit_xor a (bit_xor b (bit_xor x z))
xor_behind_two x a b z = xor_swap x a (bit_xor b z) ∙ ap (bit_xor a) (xor_swap x b z)

xor_behind_three : (x a b c z : ℕ) → bit_xor x (bit_xor a (bit_xor b (bit_xor c z))) ≡ bit_xor a (bit_xor b (bit_xor c (bit_xor x z)))
xor_behind_three x a b c z = xor_swap x a (bit_xor b (bit_xor c z)) ∙ ap (bit_xor a) (xor_behind_two x b c z)

xor_behind_four : (x a b c d z : ℕ) → bit_xor x (bit_xor a (bit_xor b (bit_xor c (bit_xor d z)))) ≡ bit_xor a (bit_xor b (bit_xor c (bit_xor d (bit_xor x z))))
xor_behind_four x a b c d z = xor_swap x a (bit_xor b (bit_xor c (bit_xor d z))) ∙ ap (bit_xor a) (xor_behind_three x b c d z)

-- the terms, the lowest first
over-turned : (f : ℕ → ℕ) → over (0 ∷ 14 ∷ 39 ∷ 54 ∷ 144 ∷ []) f ≡ over terms f
unfolding over
over-turned f =
    xor_behind_four (f 0) (f 14) (f 39) (f 54) (f 144) 0
    ∙ xor_behind_three (f 14) (f 39) (f 54) (f 144) (bit_xor (f 0) 0)
    ∙ xor_behind_two (f 39) (f 54) (f 144) (bit_xor (f 14) (bit_xor (f 0) 0))
    ∙ xor_swap (f 54) (f 144) (bit_xor (f 39) (bit_xor (f 14) (bit_xor (f 0) 0)))

pub xored_at_terms : (at : ℕ) (room v : List ℕ) → length v ≡ 16 → at + 160 ≤ length room
    → remainder (fold (zip2 bit_xor) (zip2 bit_xor v (chunk at 16 room)) (map (λ k. chunk (at + k) 16 room) (14 ∷ 39 ∷ 54 ∷ 144 ∷ [])))
    ≡ bit_xor (remainder v) (over terms (λ k. remainder (chunk (at + k) 16 room)))
xored_at_terms at room v sixteen within =
    let same : (k : ℕ) → k ≤ 144 → length v ≡ length (chunk (at + k) 16 room) = λ k low. sixteen ∙ sym (length-chunk (at + k) 16 room (omega arith)) in
    let first : at ≡ at + 0 = omega arith in
    ap (λ n. remainder (fold (zip2 bit_xor) (zip2 bit_xor v (chunk n 16 room)) (map (λ k. chunk (at + k) 16 room) (14 ∷ 39 ∷ 54 ∷ 144 ∷ [])))) first
    ∙ all_xored v (map (λ k. chunk (at + k) 16 room) (0 ∷ 14 ∷ 39 ∷ 54 ∷ 144 ∷ [])) (same 0 (omega arith), (same 14 (omega arith), (same 39 (omega arith), (same 54 (omega arith), (same 144 (omega arith), tt)))))
    ∙ over-each (λ k. remainder (chunk (at + k) 16 room)) (remainder v) (0 ∷ 14 ∷ 39 ∷ 54 ∷ 144 ∷ [])
    ∙ ap (bit_xor (remainder v)) (over-turned (λ k. remainder (chunk (at + k) 16 room)))

-- ---- sixteen bytes taken away

-- the first sixteen of the bytes that a term puts on, apart from the others
first_apart : (k : ℕ) → k ≤ 193 → (taken : List ℕ) → length taken ≡ 209
    → times_power (8 * k) (remainder (drop k taken)) ≡ bit_xor (times_power 1544 (remainder (chunk k 16 taken))) (times_power (8 * k) (remainder (drop (k + 16) taken)))
first_apart k within taken long =
    let first = remainder (chunk k 16 taken) in
    let others = drop (k + 16) taken in
    let n = 8 * length others in
    let bits : 8 * k + n ≡ 1544 = omega (arith, length-drop (k + 16) taken) in
    ap (λ l. times_power (8 * k) (remainder l)) (chunk-drop k 16 taken)
    ∙ ap (times_power (8 * k)) (remainder-append (chunk k 16 taken) others)
    ∙ times_power-xor (8 * k) (times_power n first) (remainder others)
    ∙ ap (λ y. bit_xor y (times_power (8 * k) (remainder others))) (sym (times_power-add (8 * k) n first) ∙ ap (λ m. times_power m first) bits)

-- sixteen more behind those that a term puts on
last_apart : (k : ℕ) → k ≤ 193 → (taken v : List ℕ) → length taken ≡ 209 → length v ≡ 16
    → times_power (8 * k) (remainder (drop k (drop 16 taken ++ v))) ≡ bit_xor (times_power 128 (times_power (8 * k) (remainder (drop (k + 16) taken)))) (times_power (8 * k) (remainder v))
last_apart k within taken v long sixteen =
    let others = drop (k + 16) taken in
    let parts : drop k (drop 16 taken ++ v) ≡ others ++ v = drop-append-le k (drop 16 taken) v (omega (arith, length-drop 16 taken)) ∙ ap (λ l. l ++ v) (drop-drop k 16 taken ∙ ap (λ n. drop n taken) (omega arith)) in
    ap (λ l. times_power (8 * k) (remainder l)) parts
    ∙ ap (times_power (8 * k)) (remainder-append others v ∙ ap (λ n. bit_xor (times_power (8 * n) (remainder others)) (remainder v)) sixteen)
    ∙ times_power-xor (8 * k) (times_power 128 (remainder others)) (remainder v)
    ∙ ap (λ y. bit_xor y (times_power (8 * k) (remainder v))) (powers_swap (8 * k) 128 (remainder others))

-- what all terms put on the first sixteen bytes behind
abbrev pub put_on_first : List ℕ → ℕ
put_on_first taken = over terms (λ k. remainder (chunk k 16 taken))

-- and on the others
abbrev put_on_others : List ℕ → ℕ
put_on_others taken = over terms (λ k. times_power (8 * k) (remainder (drop (k + 16) taken)))

put_on-split : (taken : List ℕ) → length taken ≡ 209 → put_on taken ≡ bit_xor (times_power 1544 (put_on_first taken)) (put_on_others taken)
put_on-split taken long =
    let at : (k : ℕ) → k ≤ 193 → times_power (8 * k) (remainder (drop k taken)) ≡ bit_xor (times_power 1544 (remainder (chunk k 16 taken))) (times_power (8 * k) (remainder (drop (k + 16) taken))) = λ k within. first_apart k within taken long in
    over-same (λ k. times_power (8 * k) (remainder (drop k taken))) (λ k. bit_xor (times_power 1544 (remainder (chunk k 16 taken))) (times_power (8 * k) (remainder (drop (k + 16) taken)))) terms
    (at 144 (omega arith), (at 54 (omega arith), (at 39 (omega arith), (at 14 (omega arith), (at 0 (omega arith), tt)))))
    ∙ over-xor (λ k. times_power 1544 (remainder (chunk k 16 taken))) (λ k. times_power (8 * k) (remainder (drop (k + 16) taken))) terms
    ∙ ap (λ y. bit_xor y (put_on_others taken)) (over-power 1544 (λ k. remainder (chunk k 16 taken)) terms)

put_on-more : (taken v : List ℕ) → length taken ≡ 209 → length v ≡ 16 → put_on (drop 16 taken ++ v) ≡ bit_xor (times_power 128 (put_on_others taken)) (over_terms (remainder v))
unfolding over_terms
put_on-more taken v long sixteen =
    let at : (k : ℕ) → k ≤ 193 → times_power (8 * k) (remainder (drop k (drop 16 taken ++ v))) ≡ bit_xor (times_power 128 (times_power (8 * k) (remainder (drop (k + 16) taken)))) (times_power (8 * k) (remainder v)) = λ k within. last_apart k within taken v long sixteen in
    over-same (λ k. times_power (8 * k) (remainder (drop k (drop 16 taken ++ v)))) (λ k. bit_xor (times_power 128 (times_power (8 * k) (remainder (drop (k + 16) taken)))) (times_power (8 * k) (remainder v))) terms
    (at 144 (omega arith), (at 54 (omega arith), (at 39 (omega arith), (at 14 (omega arith), (at 0 (omega arith), tt)))))
    ∙ over-xor (λ k. times_power 128 (times_power (8 * k) (remainder (drop (k + 16) taken)))) (λ k. times_power (8 * k) (remainder v)) terms
    ∙ ap (λ y. bit_xor y (over terms (λ k. times_power (8 * k) (remainder v)))) (over-power 128 (λ k. times_power (8 * k) (remainder (drop (k + 16) taken))) terms)

-- sixteen bytes, with what is put on them, are taken away
pub sixteen_taken : (r : ℕ) (taken bytes v : List ℕ) → length taken ≡ 209 → length bytes ≡ 16 → length v ≡ 16 → Each1 (Fits w8) v
    → remainder v ≡ bit_xor (remainder bytes) (put_on_first taken) → CarriesOn taken r → CarriesOn (drop 16 taken ++ v) (fold after_byte r bytes)
sixteen_taken r taken bytes v long sixteen as_long fits put stands =
    let first = put_on_first taken in
    let others = times_power 128 (put_on_others taken) in
    let own = times_power 1672 (remainder bytes) in
    let before : times_power 1672 (times_power 128 r) ≡ bit_xor (times_power 1672 first) others =
    powers_swap 1672 128 r
    ∙ ap (times_power 128) (sym stands ∙ put_on-split taken long)
    ∙ times_power-xor 128 (times_power 1544 first) (put_on_others taken)
    ∙ ap (λ y. bit_xor y others) (sym (times_power-add 128 1544 first)) in
    put_on-more taken v long as_long
    ∙ ap (bit_xor others) (sym (multiple-bytes v fits) ∙ ap (times_power 1672) put ∙ times_power-xor 1672 (remainder bytes) first ∙ xor_comm own (times_power 1672 first))
    ∙ sym (xor_assoc others (times_power 1672 first) own)
    ∙ ap (λ y. bit_xor y own) (xor_comm others (times_power 1672 first) ∙ sym before)
    ∙ sym (times_power-xor 1672 (times_power 128 r) (remainder bytes))
    ∙ ap (times_power 1672) (sym (fold-remainder r bytes ∙ ap (λ n. bit_xor (times_power (8 * n) r) (remainder bytes)) sixteen))

none_put : put_on (replicate 209 0) ≡ times_power 1672 0
unfolding times_power over
none_put = refl

none_put_first : put_on_first (replicate 209 0) ≡ 0
unfolding times_power over
none_put_first = refl

-- the first sixteen, with zeros before them
pub first_taken : (v : List ℕ) → length v ≡ 16 → Each1 (Fits w8) v → CarriesOn (replicate 193 0 ++ v) (remainder v)
first_taken v long fits =
    sixteen_taken 0 (replicate 209 0) v v refl long long fits (sym (ap (bit_xor (remainder v)) none_put_first ∙ xor_zero_r (remainder v))) none_put

-- ---- the room

pub chunk_within : (k n at m : ℕ) (room : List ℕ) → k + n ≤ m → chunk k n (chunk at m room) ≡ chunk (at + k) n room
chunk_within k n at m room within =
    ap (λ j. take n (drop k (take j (drop at room)))) (omega arith)
    ∙ ap (take n) (drop-take k (m - k) (drop at room))
    ∙ take-take n (m - k) (drop k (drop at room)) (omega arith)
    ∙ ap (take n) (drop-drop k at room)

pub take_chunk : (n m : ℕ) (xs : List ℕ) → take (n + m) xs ≡ take n xs ++ chunk n m xs
take_chunk n m xs =
    sym (take-append-drop n (take (n + m) xs))
    ∙ ap (λ l. l ++ drop n (take (n + m) xs)) (take-take n (n + m) xs (omega arith))
    ∙ ap (λ l. take n xs ++ l) (drop-take n m xs)

put_on_first-room : (at : ℕ) (room : List ℕ) → put_on_first (chunk at 209 room) ≡ over terms (λ k. remainder (chunk (at + k) 16 room))
put_on_first-room at room =
    let same : (k : ℕ) → k ≤ 193 → remainder (chunk k 16 (chunk at 209 room)) ≡ remainder (chunk (at + k) 16 room) = λ k within. ap remainder (chunk_within k 16 at 209 room (omega arith)) in
    over-same (λ k. remainder (chunk k 16 (chunk at 209 room))) (λ k. remainder (chunk (at + k) 16 room)) terms
    (same 144 (omega arith), (same 54 (omega arith), (same 39 (omega arith), (same 14 (omega arith), (same 0 (omega arith), tt)))))

room_behind : (at : ℕ) (room v : List ℕ) → length v ≡ 16 → at + 225 ≤ length room
    → chunk (at + 16) 209 (put_chunk (at + 209) room v) ≡ drop 16 (chunk at 209 room) ++ v
room_behind at room v sixteen within =
    let new = put_chunk (at + 209) room v in
    let old = take (at + 209) room in
    sym (drop-take (at + 16) 209 new)
    ∙ ap (drop (at + 16)) (take_more_put_chunk (at + 209) room v (at + 16 + 209) (omega arith) (omega arith))
    ∙ drop-append-le (at + 16) old v (omega (arith, length-take-le (at + 209) room (omega arith)))
    ∙ ap (λ l. l ++ v) (sym (drop-drop 16 at old) ∙ ap (drop 16) (drop-take at 209 room))

-- sixteen bytes are taken away into the room
pub taken_into_room : (r at : ℕ) (room bytes v : List ℕ) → at + 225 ≤ length room → length bytes ≡ 16 → length v ≡ 16 → Each1 (Fits w8) v
    → remainder v ≡ bit_xor (remainder bytes) (over terms (λ k. remainder (chunk (at + k) 16 room)))
    → CarriesOn (chunk at 209 room) r → CarriesOn (chunk (at + 16) 209 (put_chunk (at + 209) room v)) (fold after_byte r bytes)
taken_into_room r at room bytes v within sixteen as_long fits put stands =
    subst (λ taken. CarriesOn taken (fold after_byte r bytes)) (sym (room_behind at room v as_long within))
    (sixteen_taken r (chunk at 209 room) bytes v (length-chunk at 209 room (omega arith)) sixteen as_long fits (put ∙ ap (bit_xor (remainder bytes)) (sym (put_on_first-room at room))) stands)

pub fold-taken : (r n m : ℕ) (bytes : List ℕ) → fold after_byte r (take (n + m) bytes) ≡ fold after_byte (fold after_byte r (take n bytes)) (chunk n m bytes)
fold-taken r n m bytes = ap (fold after_byte r) (take_chunk n m bytes) ∙ fold-append after_byte r (take n bytes) (chunk n m bytes)

pub fold-more : (r at n m : ℕ) (bytes : List ℕ) → fold after_byte r (chunk at (n + m) bytes) ≡ fold after_byte (fold after_byte r (chunk at n bytes)) (chunk (at + n) m bytes)
fold-more r at n m bytes =
    fold-taken r n m (drop at bytes)
    ∙ ap (λ l. fold after_byte (fold after_byte r (chunk at n bytes)) (take m l)) (drop-drop n at bytes)

-- the same with what is known of the place and of the remainder
pub stands_at : (room : List ℕ) (a b r s : ℕ) → a ≡ b → r ≡ s → CarriesOn (chunk a 209 room) r → CarriesOn (chunk b 209 room) s
stands_at room a b r s at is stands =
    subst (λ n. CarriesOn (chunk n 209 room) s) at (subst (λ x. CarriesOn (chunk a 209 room) x) is stands)

-- ---- the bytes that are left

pub none_left : (room : List ℕ) → over terms (λ k. remainder (chunk k 0 room)) ≡ 0
unfolding over
none_left room = refl

-- sixteen more
pub sixteen_left : (at : ℕ) (left last room v : List ℕ) → at + 16 ≤ length last → at + 16 ≤ length left → at + 160 ≤ length room → length v ≡ 16
    → remainder v ≡ bit_xor (remainder (chunk at 16 last)) (over terms (λ k. remainder (chunk (at + k) 16 room)))
    → remainder (take at left) ≡ bit_xor (remainder (take at last)) (over terms (λ k. remainder (chunk k at room)))
    → remainder (take (at + 16) (put_chunk at left v)) ≡ bit_xor (remainder (take (at + 16) last)) (over terms (λ k. remainder (chunk k (at + 16) room)))
sixteen_left at left last room v last_within left_within room_within sixteen put before =
    let more : (xs : List ℕ) → at + 16 ≤ length xs → remainder (take (at + 16) xs) ≡ bit_xor (times_power 128 (remainder (take at xs))) (remainder (chunk at 16 xs)) = λ xs within.
    ap remainder (take_chunk at 16 xs) ∙ remainder-append (take at xs) (chunk at 16 xs) ∙ ap (λ n. bit_xor (times_power (8 * n) (remainder (take at xs))) (remainder (chunk at 16 xs))) (length-chunk at 16 xs within) in
    let put_more : (k : ℕ) → k ≤ 144 → remainder (chunk k (at + 16) room) ≡ bit_xor (times_power 128 (remainder (chunk k at room))) (remainder (chunk (at + k) 16 room)) = λ k within.
    more (drop k room) (omega (arith, length-drop k room)) ∙ ap (λ l. bit_xor (times_power 128 (remainder (chunk k at room))) (remainder (take 16 l))) (drop-drop at k room ∙ ap (λ n. drop n room) (omega arith)) in
    let put_before = over terms (λ k. remainder (chunk k at room)) in
    let put_now = over terms (λ k. remainder (chunk (at + k) 16 room)) in
    let of_last = remainder (take at last) in
    let now = remainder (chunk at 16 last) in
    let all_put : over terms (λ k. remainder (chunk k (at + 16) room)) ≡ bit_xor (times_power 128 put_before) put_now =
    over-same (λ k. remainder (chunk k (at + 16) room)) (λ k. bit_xor (times_power 128 (remainder (chunk k at room))) (remainder (chunk (at + k) 16 room))) terms
    (put_more 144 (omega arith), (put_more 54 (omega arith), (put_more 39 (omega arith), (put_more 14 (omega arith), (put_more 0 (omega arith), tt)))))
    ∙ over-xor (λ k. times_power 128 (remainder (chunk k at room))) (λ k. remainder (chunk (at + k) 16 room)) terms
    ∙ ap (λ y. bit_xor y put_now) (over-power 128 (λ k. remainder (chunk k at room)) terms) in
    ap remainder (take_more_put_chunk at left v (at + 16) (omega arith) left_within)
    ∙ remainder-append (take at left) v
    ∙ ap (λ n. bit_xor (times_power (8 * n) (remainder (take at left))) (remainder v)) sixteen
    ∙ ap (λ y. bit_xor (times_power 128 y) (remainder v)) before
    ∙ ap (λ y. bit_xor y (remainder v)) (times_power-xor 128 of_last put_before)
    ∙ ap (bit_xor (bit_xor (times_power 128 of_last) (times_power 128 put_before))) put
    ∙ xor_cross (times_power 128 of_last) (times_power 128 put_before) now put_now
    ∙ sym (ap (bit_xor (remainder (take (at + 16) last))) all_put ∙ ap (λ y. bit_xor y (bit_xor (times_power 128 put_before) put_now)) (more last last_within))

take_behind : (xs ys : List ℕ) (m : ℕ) → take (length xs + m) (xs ++ ys) ≡ xs ++ take m ys
take_behind [] ys m =
    let none : 0 + m ≡ m = omega arith in
    ap (λ n. take n ys) none
take_behind (x ∷ xs) ys m =
    let one_more : suc (length xs) + m ≡ suc (length xs + m) = omega arith in
    ap (λ n. take n (x ∷ (xs ++ ys))) one_more ∙ ap (λ l. x ∷ l) (take_behind xs ys m)

-- zeros behind those that a term puts on
zeros_behind : (k : ℕ) → k ≤ 144 → (taken room : List ℕ) → length taken ≡ 209 → take 369 room ≡ taken ++ replicate 160 0
    → remainder (chunk k 224 room) ≡ times_power 120 (times_power (8 * k) (remainder (drop k taken)))
zeros_behind k within taken room long cleared =
    let others = drop k taken in
    let zeros : List ℕ = replicate (15 + k) 0 in
    let left : length others ≡ 209 - k = length-drop k taken ∙ ap (λ n. n - k) long in
    let at_front : k ≡ 0 + k = omega arith in
    let parts : 224 ≡ length others + (15 + k) = omega arith in
    let is : chunk k 224 room ≡ others ++ zeros =
    ap (λ n. chunk n 224 room) at_front
    ∙ sym (chunk_within k 224 0 369 room (omega arith))
    ∙ ap (chunk k 224) cleared
    ∙ ap (take 224) (drop-append-le k taken (replicate 160 0) (omega arith))
    ∙ ap (λ n. take n (others ++ replicate 160 0)) parts
    ∙ take_behind others (replicate 160 0) (15 + k)
    ∙ ap (λ l. others ++ l) (take-replicate (15 + k) 160 0 (omega arith)) in
    let bits : 8 * length zeros ≡ 120 + 8 * k = omega (arith, length-replicate {A = ℕ} (15 + k) 0) in
    ap remainder is
    ∙ remainder-append others zeros
    ∙ ap (λ y. bit_xor (times_power (8 * length zeros) (remainder others)) y) (remainder-zeros (15 + k))
    ∙ xor_zero_r (times_power (8 * length zeros) (remainder others))
    ∙ ap (λ n. times_power n (remainder others)) bits
    ∙ times_power-add 120 (8 * k) (remainder others)

-- all
pub all_left : (r : ℕ) (taken room last left : List ℕ) → length taken ≡ 209 → length last ≡ 224 → take 369 room ≡ taken ++ replicate 160 0
    → remainder left ≡ bit_xor (remainder last) (over terms (λ k. remainder (chunk k 224 room)))
    → CarriesOn taken r → remainder left ≡ fold after_byte r last
all_left r taken room last left long as_long cleared is stands =
    let at : (k : ℕ) → k ≤ 144 → remainder (chunk k 224 room) ≡ times_power 120 (times_power (8 * k) (remainder (drop k taken))) = λ k within. zeros_behind k within taken room long cleared in
    let put : over terms (λ k. remainder (chunk k 224 room)) ≡ times_power 1792 r =
    over-same (λ k. remainder (chunk k 224 room)) (λ k. times_power 120 (times_power (8 * k) (remainder (drop k taken)))) terms
    (at 144 (omega arith), (at 54 (omega arith), (at 39 (omega arith), (at 14 (omega arith), (at 0 (omega arith), tt)))))
    ∙ over-power 120 (λ k. times_power (8 * k) (remainder (drop k taken))) terms
    ∙ ap (times_power 120) stands
    ∙ sym (times_power-add 120 1672 r) in
    is
    ∙ ap (bit_xor (remainder last)) put
    ∙ xor_comm (remainder last) (times_power 1792 r)
    ∙ sym (fold-remainder r last ∙ ap (λ n. bit_xor (times_power (8 * n) r) (remainder last)) as_long)

-- ---- the first bytes

pub begun : (before : ℕ) (room bytes v : List ℕ) → 209 ≤ length room → length bytes ≡ 16 → length v ≡ 16 → Each1 (Fits w8) v → take 193 room ≡ replicate 193 0
    → remainder v ≡ bit_xor (times_power 128 before) (remainder bytes) → CarriesOn (take 209 (put_chunk 193 room v)) (fold after_byte before bytes)
begun before room bytes v within sixteen as_long fits empty is =
    let whole : take 209 (put_chunk 193 room v) ≡ replicate 193 0 ++ v = take_more_put_chunk 193 room v 209 (omega arith) within ∙ ap (λ l. l ++ v) empty in
    let all : remainder v ≡ fold after_byte before bytes = is ∙ sym (fold-remainder before bytes ∙ ap (λ n. bit_xor (times_power (8 * n) before) (remainder bytes)) sixteen) in
    subst (λ taken. CarriesOn taken (fold after_byte before bytes)) (sym whole)
    (subst (λ r. CarriesOn (replicate 193 0 ++ v) r) all (first_taken v as_long fits))

fold-split : (r n : ℕ) (bytes : List ℕ) → fold after_byte (fold after_byte r (take n bytes)) (drop n bytes) ≡ fold after_byte r bytes
fold-split r n bytes = sym (fold-append after_byte r (take n bytes) (drop n bytes)) ∙ ap (fold after_byte r) (take-append-drop n bytes)

-- the first sixteen, those taken away, the last, and the rest
pub in_parts : (r taken : ℕ) (bytes behind others : List ℕ) → behind ≡ drop 16 bytes → others ≡ drop taken behind
    → fold after_byte (fold after_byte (fold after_byte (fold after_byte r (take 16 bytes)) (take taken behind)) (take 224 others)) (drop 224 others) ≡ fold after_byte r bytes
in_parts r taken bytes behind others is_behind is_others =
    let first = fold after_byte r (take 16 bytes) in
    let second = fold after_byte first (take taken behind) in
    fold-split second 224 others
    ∙ ap (fold after_byte second) is_others
    ∙ fold-split first taken behind
    ∙ ap (fold after_byte first) is_behind
    ∙ fold-split r 16 bytes

-- ---- the front of the room

pub moved_further : (at from : ℕ) (room old v : List ℕ) → length v ≡ 16 → at + 16 ≤ length room → v ≡ chunk (from + at) 16 room
    → take at room ≡ take at (drop from old) → drop (from + at) room ≡ drop (from + at) old
    → (take (at + 16) (put_chunk at room v) ≡ take (at + 16) (drop from old)) × (drop (from + (at + 16)) (put_chunk at room v) ≡ drop (from + (at + 16)) old)
moved_further at from room old v sixteen within is front behind = (
  take_more_put_chunk at room v (at + 16) (omega arith) within
      ∙ ap (λ l. l ++ v) front
      ∙ ap (λ l. take at (drop from old) ++ l) (is ∙ ap (take 16) (behind ∙ sym (drop-drop at from old)))
      ∙ sym (take_chunk at 16 (drop from old)),
  ap (λ n. drop n (put_chunk at room v)) order
      ∙ sym (drop-drop from (at + 16) (put_chunk at room v))
      ∙ ap (drop from) put_behind
      ∙ drop-drop from (at + 16) room
      ∙ ap (λ n. drop n room) further
      ∙ sym (drop-drop 16 (from + at) room)
      ∙ ap (drop 16) behind
      ∙ drop-drop 16 (from + at) old
      ∙ ap (λ n. drop n old) last,
)
  where
    order : from + (at + 16) ≡ at + 16 + from
    order = omega arith

    further : at + 16 + from ≡ from + at + 16
    further = omega arith

    last : from + at + 16 ≡ from + (at + 16)
    last = omega arith

    put_behind : drop (at + 16) (put_chunk at room v) ≡ drop (at + 16) room
    put_behind =
        sym (drop-drop 16 at (put_chunk at room v))
        ∙ ap (λ l. drop 16 (drop at l)) (put_chunk_is at room v (omega arith))
        ∙ ap (drop 16) (drop_at (take at room) (v ++ drop (length v) (drop at room)) at (length-take-le at room (omega arith)))
        ∙ drop_at v (drop (length v) (drop at room)) 16 sixteen
        ∙ ap (λ n. drop n (drop at room)) sixteen
        ∙ drop-drop 16 at room

pub cleared_further : (at : ℕ) (room front v : List ℕ) → 209 ≤ at → at + 16 ≤ length room → v ≡ replicate 16 0 → take at room ≡ front ++ replicate (at - 209) 0
    → take (at + 16) (put_chunk at room v) ≡ front ++ replicate (at + 16 - 209) 0
cleared_further at room front v behind within is cleared =
    let sixteen : length v ≡ 16 = ap length is in
    let order : at - 209 + 16 ≡ at + 16 - 209 = omega arith in
    take_more_put_chunk at room v (at + 16) (omega arith) within
    ∙ ap (λ l. l ++ v) cleared
    ∙ ap (λ l. (front ++ replicate (at - 209) 0) ++ l) is
    ∙ append_assoc front (replicate (at - 209) 0) (replicate 16 0)
    ∙ ap (λ l. front ++ l) (replicate-append-replicate {A = ℕ} (at - 209) 16 0 ∙ ap (λ n. replicate n 0) order)
