-- Laws of numbers that stand behind one another, and of the remainder of bytes alone.
use Rattle.std.proofs.Common.{◌≡◌, ℕ, zero, suc, ◌+◌, ◌*◌, List, [], ◌∷◌, map, length, drop, fold, refl, sym, ap, ◌∙◌, arith}
use Rattle.std.proofs.lemmas.List.{length-map, length-drop, drop_all}
use Rattle.std.proofs.lemmas.Nat.{xor_comm}
use Rattle.std.proofs.lemmas.List.Sums.{fold-append}
use Rattle.std.proofs.lemmas.Simd.{length-zip2, chunk-drop}
use Rattle.std.specs.Int.Bits.{bit_xor, xor_assoc, xor_zero_r}
use lib.Lanes.{zip2, chunk}
use Rattle.wal_crc32c.specs.Crc32c.{times_power, after_byte}
use Rattle.wal_crc32c.specs.Folding.{remainder, spread}
use Rattle.wal_crc32c.proofs.Remainders.{times_power-add, times_power-xor, xor_cross}

pub zero_xor : (a : ℕ) → bit_xor 0 a ≡ a
zero_xor a = xor_comm 0 a ∙ xor_zero_r a

pub times_power-zero : (n : ℕ) → times_power n 0 ≡ 0
unfolding times_power
times_power-zero zero = refl
times_power-zero (suc n) = times_power-zero n

pub powers_swap : (m n r : ℕ) → times_power m (times_power n r) ≡ times_power n (times_power m r)
powers_swap m n r = sym (times_power-add m n r) ∙ ap (λ k. times_power k r) (omega arith) ∙ times_power-add n m r

pub spread-xor : (n : ℕ) (ys zs : List ℕ) → length ys ≡ length zs → spread n (zip2 bit_xor ys zs) ≡ bit_xor (spread n ys) (spread n zs)
unfolding spread
spread-xor n [] [] e = refl
spread-xor n [] (z ∷ zs) e = absurd (omega arith)
spread-xor n (y ∷ ys) [] e = absurd (omega arith)
spread-xor n (y ∷ ys) (z ∷ zs) e =
    let same : length ys ≡ length zs = omega arith in
    let k = n * length ys in
    ap (λ l. bit_xor (times_power (n * l) (bit_xor y z)) (spread n (zip2 bit_xor ys zs))) (length-zip2 bit_xor ys zs same)
    ∙ ap (bit_xor (times_power k (bit_xor y z))) (spread-xor n ys zs same)
    ∙ ap (λ x. bit_xor x (bit_xor (spread n ys) (spread n zs))) (times_power-xor k y z)
    ∙ xor_cross (times_power k y) (times_power k z) (spread n ys) (spread n zs)
    ∙ ap (λ l. bit_xor (spread n (y ∷ ys)) (bit_xor (times_power (n * l) z) (spread n zs))) same

pub spread-power : (n m : ℕ) (ys : List ℕ) → spread n (map (times_power m) ys) ≡ times_power m (spread n ys)
unfolding spread
spread-power n m [] = sym (times_power-zero m)
spread-power n m (y ∷ ys) =
    let k = n * length ys in
    ap (λ l. bit_xor (times_power (n * l) (times_power m y)) (spread n (map (times_power m) ys))) (length-map ys (times_power m))
    ∙ ap (bit_xor (times_power k (times_power m y))) (spread-power n m ys)
    ∙ ap (λ x. bit_xor x (times_power m (spread n ys))) (powers_swap k m y)
    ∙ sym (times_power-xor m (times_power k y) (spread n ys))

-- what stands before goes on over all bytes, apart from what they leave
pub fold-spread : (r : ℕ) (bytes : List ℕ) → fold after_byte r bytes ≡ bit_xor (times_power (8 * length bytes) r) (times_power 8 (spread 8 bytes))
unfolding times_power spread
fold-spread r [] = sym (xor_zero_r r)
fold-spread r (byte ∷ bytes) =
    let k = 8 * length bytes in
    let left = times_power 8 (spread 8 bytes) in
    let further : 8 + k ≡ 8 * suc (length bytes) = omega arith in
    fold-spread (after_byte r byte) bytes
    ∙ ap (λ x. bit_xor x left) (powers_swap k 8 (bit_xor r byte) ∙ sym (times_power-add 8 k (bit_xor r byte)) ∙ times_power-xor (8 + k) r byte)
    ∙ xor_assoc (times_power (8 + k) r) (times_power (8 + k) byte) left
    ∙ ap (λ x. bit_xor (times_power (8 + k) r) (bit_xor x left)) (times_power-add 8 k byte)
    ∙ ap (bit_xor (times_power (8 + k) r)) (sym (times_power-xor 8 (times_power k byte) (spread 8 bytes)))
    ∙ ap (λ n. bit_xor (times_power n r) (times_power 8 (spread 8 (byte ∷ bytes)))) further

pub remainder-spread : (bytes : List ℕ) → remainder bytes ≡ times_power 8 (spread 8 bytes)
remainder-spread bytes =
    fold-spread 0 bytes
    ∙ ap (λ x. bit_xor x (times_power 8 (spread 8 bytes))) (times_power-zero (8 * length bytes))
    ∙ zero_xor (times_power 8 (spread 8 bytes))

pub fold-remainder : (r : ℕ) (bytes : List ℕ) → fold after_byte r bytes ≡ bit_xor (times_power (8 * length bytes) r) (remainder bytes)
fold-remainder r bytes = fold-spread r bytes ∙ ap (bit_xor (times_power (8 * length bytes) r)) (sym (remainder-spread bytes))

pub remainder-xor : (xs ys : List ℕ) → length xs ≡ length ys → remainder (zip2 bit_xor xs ys) ≡ bit_xor (remainder xs) (remainder ys)
remainder-xor xs ys same =
    remainder-spread (zip2 bit_xor xs ys)
    ∙ ap (times_power 8) (spread-xor 8 xs ys same)
    ∙ times_power-xor 8 (spread 8 xs) (spread 8 ys)
    ∙ ap (λ x. bit_xor x (times_power 8 (spread 8 ys))) (sym (remainder-spread xs))
    ∙ ap (bit_xor (remainder xs)) (sym (remainder-spread ys))

-- one number after another, each m bits before what is spread, taken off
abbrev pub carried_one_by_one : ℕ → ℕ → List ℕ → ℕ
carried_one_by_one m r [] = r
carried_one_by_one m r (y ∷ ys) = carried_one_by_one m (bit_xor r (times_power (m + 128 * length ys) y)) ys

pub all_carried : (m r : ℕ) (ys : List ℕ) → carried_one_by_one m r ys ≡ bit_xor r (times_power m (spread 128 ys))
unfolding spread
all_carried m r [] = sym (xor_zero_r r) ∙ ap (bit_xor r) (sym (times_power-zero m))
all_carried m r (y ∷ ys) =
    let k = 128 * length ys in
    all_carried m (bit_xor r (times_power (m + k) y)) ys
    ∙ xor_assoc r (times_power (m + k) y) (times_power m (spread 128 ys))
    ∙ ap (λ x. bit_xor r (bit_xor x (times_power m (spread 128 ys)))) (times_power-add m k y)
    ∙ ap (bit_xor r) (sym (times_power-xor m (times_power k y) (spread 128 ys)))

-- one behind another
pub absorbed : (r : ℕ) (ys : List ℕ) → fold (λ r y. bit_xor (times_power 128 r) y) r ys ≡ bit_xor (times_power (128 * length ys) r) (spread 128 ys)
unfolding times_power spread
absorbed r [] = sym (xor_zero_r r)
absorbed r (y ∷ ys) =
    let k = 128 * length ys in
    let further : k + 128 ≡ 128 * suc (length ys) = omega arith in
    absorbed (bit_xor (times_power 128 r) y) ys
    ∙ ap (λ x. bit_xor x (spread 128 ys)) (times_power-xor k (times_power 128 r) y ∙ ap (λ x. bit_xor x (times_power k y)) (sym (times_power-add k 128 r)))
    ∙ xor_assoc (times_power (k + 128) r) (times_power k y) (spread 128 ys)
    ∙ ap (λ n. bit_xor (times_power n r) (spread 128 (y ∷ ys))) further

pub all_absorbed : (ys : List ℕ) → fold (λ r y. bit_xor (times_power 128 r) y) 0 ys ≡ spread 128 ys
all_absorbed ys = absorbed 0 ys ∙ ap (λ x. bit_xor x (spread 128 ys)) (times_power-zero (128 * length ys)) ∙ zero_xor (spread 128 ys)

-- what stands one before the first, taken onto the first
pub spread-first : (r y : ℕ) (ys : List ℕ) → spread 128 (bit_xor (times_power 128 r) y ∷ ys) ≡ bit_xor (times_power (128 * suc (length ys)) r) (spread 128 (y ∷ ys))
unfolding spread
spread-first r y ys = sym (absorbed (bit_xor (times_power 128 r) y) ys) ∙ absorbed r (y ∷ ys)

-- the pieces of sixteen bytes from a place on
abbrev pieces : ℕ → ℕ → List ℕ → List (List ℕ)
pieces zero i bytes = []
pieces (suc m) i bytes = chunk i 16 bytes ∷ pieces m (i + 16) bytes

length-pieces : (m i : ℕ) (bytes : List ℕ) → length (map remainder (pieces m i bytes)) ≡ m
length-pieces zero i bytes = refl
length-pieces (suc m) i bytes = ap suc (length-pieces m (i + 16) bytes)

spread-pieces : (m i : ℕ) (bytes : List ℕ) → i + 16 * m ≡ length bytes → spread 128 (map remainder (pieces m i bytes)) ≡ remainder (drop i bytes)
unfolding spread
spread-pieces zero i bytes e = ap remainder (sym (drop_all i bytes (omega arith)))
spread-pieces (suc m) i bytes e =
    let first = chunk i 16 bytes in
    let rest = drop (i + 16) bytes in
    let long : 8 * length rest ≡ 128 * m = omega (arith, length-drop (i + 16) bytes) in
    ap (λ l. bit_xor (times_power (128 * l) (remainder first)) (spread 128 (map remainder (pieces m (i + 16) bytes)))) (length-pieces m (i + 16) bytes)
    ∙ ap (bit_xor (times_power (128 * m) (remainder first))) (spread-pieces m (i + 16) bytes (omega arith))
    ∙ sym (ap remainder (chunk-drop i 16 bytes) ∙ fold-append after_byte 0 first rest ∙ fold-remainder (remainder first) rest ∙ ap (λ n. bit_xor (times_power n (remainder first)) (remainder rest)) long)

pub six_parts : (bytes : List ℕ) → length bytes ≡ 96 → spread 128 (map remainder (pieces 6 0 bytes)) ≡ remainder bytes
six_parts bytes e = spread-pieces 6 0 bytes (omega arith)
