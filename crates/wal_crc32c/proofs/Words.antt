-- The remainder of several bytes taken as one number, the first byte lowest.
use Rattle.std.proofs.Common.{w32, subst, replicate, ◌≡◌, ℕ, zero, suc, ◌+◌, ◌-◌, ◌*◌, ◌/◌, ◌%◌, ◌^◌, ◌<◌, ◌≤◌, List, [], ◌∷◌, ◌++◌, length, take, drop, get_or, fold, refl, sym, ap, ◌∙◌, arith}
use Rattle.std.proofs.Math.Nat.{div-one, div-div-eq-div-mul, pow-suc, add-zero}
use Rattle.std.proofs.lemmas.List.{take_all}
use Rattle.std.proofs.lemmas.List.Sums.{fold-append}
use Rattle.std.proofs.lemmas.Nat.{from_le_bytes-to_le_bytes_4, from_le_bytes-to_le_bytes_8, xor_comm}
use Rattle.std.proofs.lemmas.Simd.{Each1-replicate}
use lib.Lanes.{Each1}
use Rattle.wal_crc32c.specs.Folding.{remainder}
use Rattle.wal_crc32c.proofs.LaneLaws.{lane_below}
use Rattle.std.specs.Int.{w64, from_le_bytes, to_le_bytes, byte_at, bytes_low_first}
use Rattle.std.specs.Int.Bits.{bit_xor, xor_assoc, xor_zero_r, xor_shifted}
use Rattle.wal_crc32c.specs.Crc32c.{times_power, after_byte, remainder_of}
use Rattle.wal_crc32c.proofs.Remainders.{times_power-add, times_power-xor, times_power-shifted, times_power-split}
use Rattle.wal_crc32c.proofs.Spread.{times_power-zero, zero_xor}

-- n bytes of 0 and one more
times_power-bytes : (n r : ℕ) → times_power (8 * suc n) r ≡ times_power (8 * n) (times_power 8 r)
times_power-bytes n r = ap (λ bits. times_power bits r) (omega arith) ∙ times_power-add (8 * n) 8 r

-- bytes as one number, the first lowest
abbrev number_of : List ℕ → ℕ
number_of [] = 0
number_of (byte ∷ bytes) = number_of bytes * 2 ^ 8 + byte

xor-first : (r byte higher : ℕ) → byte < 2 ^ 8 → times_power 8 (bit_xor r (higher * 2 ^ 8 + byte)) ≡ bit_xor (after_byte r byte) higher
xor-first r byte higher small =
    ap (λ x. times_power 8 (bit_xor r x)) (sym (xor_shifted higher 8 byte small) ∙ xor_comm (higher * 2 ^ 8) byte)
    ∙ ap (times_power 8) (sym (xor_assoc r byte (higher * 2 ^ 8)))
    ∙ times_power-xor 8 (bit_xor r byte) (higher * 2 ^ 8)
    ∙ ap (bit_xor (after_byte r byte)) (times_power-shifted 8 higher)

fold-after_byte : (r : ℕ) (bytes : List ℕ) → ((i : ℕ) → get_or bytes i 0 < 2 ^ 8) → fold after_byte r bytes ≡ times_power (8 * length bytes) (bit_xor r (number_of bytes))
unfolding times_power
fold-after_byte r [] small = sym (xor_zero_r r)
fold-after_byte r (byte ∷ bytes) small =
    fold-after_byte (after_byte r byte) bytes (λ i. small (suc i))
    ∙ ap (times_power (8 * length bytes)) (sym (xor-first r byte (number_of bytes) (small 0)))
    ∙ sym (times_power-bytes (length bytes) (bit_xor r (number_of bytes * 2 ^ 8 + byte)))

number_of_eight : (bytes : List ℕ) → length bytes ≡ 8 → number_of bytes ≡ from_le_bytes w64 bytes
number_of_eight (b0 ∷ b1 ∷ b2 ∷ b3 ∷ b4 ∷ b5 ∷ b6 ∷ b7 ∷ []) e = omega arith
number_of_eight _ e = absurd (omega arith)

pub fold-eight : (r : ℕ) (bytes : List ℕ) → length bytes ≡ 8 → ((i : ℕ) → get_or bytes i 0 < 2 ^ 8) → fold after_byte r bytes ≡ times_power 64 (bit_xor r (from_le_bytes w64 bytes))
fold-eight r bytes e small =
    fold-after_byte r bytes small
    ∙ ap (λ n. times_power (8 * n) (bit_xor r (number_of bytes))) e
    ∙ ap (λ word. times_power 64 (bit_xor r word)) (number_of_eight bytes e)

number_of_four : (bytes : List ℕ) → length bytes ≡ 4 → number_of bytes ≡ from_le_bytes w32 bytes
number_of_four (b0 ∷ b1 ∷ b2 ∷ b3 ∷ []) e = omega arith
number_of_four _ e = absurd (omega arith)

pub fold-four : (r : ℕ) (bytes : List ℕ) → length bytes ≡ 4 → ((i : ℕ) → get_or bytes i 0 < 2 ^ 8) → fold after_byte r bytes ≡ times_power 32 (bit_xor r (from_le_bytes w32 bytes))
fold-four r bytes e small =
    fold-after_byte r bytes small
    ∙ ap (λ n. times_power (8 * n) (bit_xor r (number_of bytes))) e
    ∙ ap (λ half. times_power 32 (bit_xor r half)) (number_of_four bytes e)

-- four bytes as half a word, and what stands behind them
pub fold-four_then : (r : ℕ) (four others : List ℕ) → length four ≡ 4 → ((i : ℕ) → get_or four i 0 < 2 ^ 8)
    → fold after_byte r (four ++ others) ≡ fold after_byte (times_power 32 (bit_xor r (from_le_bytes w32 four))) others
fold-four_then r four others e small = fold-append after_byte r four others ∙ ap (λ s. fold after_byte s others) (fold-four r four e small)

after_one_more : (n x a : ℕ) → after_byte (times_power n x) a ≡ bit_xor (times_power (8 + n) x) (times_power 8 a)
after_one_more n x a = times_power-xor 8 (times_power n x) a ∙ ap (λ y. bit_xor y (times_power 8 a)) (sym (times_power-add 8 n x))

after_two_more : (x a b : ℕ) → after_byte (after_byte (times_power 32 x) a) b ≡ bit_xor (bit_xor (times_power 48 x) (times_power 16 a)) (times_power 8 b)
after_two_more x a b =
    ap (λ y. after_byte y b) (after_one_more 32 x a)
    ∙ times_power-xor 8 (bit_xor (times_power 40 x) (times_power 8 a)) b
    ∙ ap (λ y. bit_xor y (times_power 8 b)) (times_power-xor 8 (times_power 40 x) (times_power 8 a))
    ∙ ap (λ y. bit_xor (bit_xor y (times_power 8 (times_power 8 a))) (times_power 8 b)) (sym (times_power-add 8 40 x))
    ∙ ap (λ y. bit_xor (bit_xor (times_power 48 x) y) (times_power 8 b)) (sym (times_power-add 8 8 a))

after_three_more : (x a b c : ℕ) → after_byte (after_byte (after_byte (times_power 32 x) a) b) c ≡ bit_xor (bit_xor (bit_xor (times_power 56 x) (times_power 24 a)) (times_power 16 b)) (times_power 8 c)
after_three_more x a b c =
    ap (λ y. after_byte y c) (after_two_more x a b)
    ∙ times_power-xor 8 (bit_xor (bit_xor (times_power 48 x) (times_power 16 a)) (times_power 8 b)) c
    ∙ ap (λ y. bit_xor y (times_power 8 c))
    (times_power-xor 8 (bit_xor (times_power 48 x) (times_power 16 a)) (times_power 8 b)
    ∙ ap (λ y. bit_xor y (times_power 8 (times_power 8 b))) (times_power-xor 8 (times_power 48 x) (times_power 16 a))
    ∙ ap (λ y. bit_xor (bit_xor y (times_power 8 (times_power 16 a))) (times_power 8 (times_power 8 b))) (sym (times_power-add 8 48 x))
    ∙ ap (λ y. bit_xor (bit_xor (times_power 56 x) y) (times_power 8 (times_power 8 b))) (sym (times_power-add 8 16 a))
    ∙ ap (bit_xor (bit_xor (times_power 56 x) (times_power 24 a))) (sym (times_power-add 8 8 b)))

pub fold-none_more : (x : ℕ) (others : List ℕ) → length others < 1 → fold after_byte (times_power 32 x) others ≡ times_power 32 x
fold-none_more x [] e = refl
fold-none_more x (a ∷ others) e = absurd (omega arith)

pub fold-one_more : (x : ℕ) (others : List ℕ) → length others ≡ 1 → fold after_byte (times_power 32 x) others ≡ bit_xor (times_power 40 x) (times_power 8 (get_or others 0 0))
fold-one_more x (a ∷ []) e = after_one_more 32 x a
fold-one_more x _ e = absurd (omega arith)

pub fold-two_more : (x : ℕ) (others : List ℕ) → length others ≡ 2
    → fold after_byte (times_power 32 x) others ≡ bit_xor (bit_xor (times_power 48 x) (times_power 16 (get_or others 0 0))) (times_power 8 (get_or others 1 0))
fold-two_more x (a ∷ b ∷ []) e = after_two_more x a b
fold-two_more x _ e = absurd (omega arith)

pub fold-three_more : (x : ℕ) (others : List ℕ) → 3 ≤ length others
    → fold after_byte (times_power 32 x) others
    ≡ fold after_byte (bit_xor (bit_xor (bit_xor (times_power 56 x) (times_power 24 (get_or others 0 0))) (times_power 16 (get_or others 1 0))) (times_power 8 (get_or others 2 0))) (take (length others - 3) (drop 3 others))
fold-three_more x (a ∷ b ∷ c ∷ behind) e =
    ap (λ s. fold after_byte s behind) (after_three_more x a b c)
    ∙ ap (fold after_byte (bit_xor (bit_xor (bit_xor (times_power 56 x) (times_power 24 a)) (times_power 16 b)) (times_power 8 c))) (sym (take_all (length (a ∷ b ∷ c ∷ behind) - 3) behind (omega arith)))
fold-three_more x _ e = absurd (omega arith)

-- the remainders of bytes, each with the further ones after it, taken off one after another
abbrev xor_lookups : ℕ → List ℕ → ℕ
xor_lookups sum [] = sum
xor_lookups sum (byte ∷ bytes) = xor_lookups (bit_xor sum (times_power (8 * suc (length bytes)) byte)) bytes

length-bytes_low_first : (i k n : ℕ) → length (bytes_low_first i k n) ≡ k
length-bytes_low_first i zero n = refl
length-bytes_low_first i (suc k) n = ap suc (length-bytes_low_first (suc i) k n)

byte_at_is : (i n : ℕ) → byte_at i n ≡ n / 256 ^ i % 256
byte_at_is zero n = ap (λ x. x % 256) (sym (div-one n))
byte_at_is (suc i) n = refl

one_lookup : (k w : ℕ) → times_power (8 * suc k) w ≡ bit_xor (times_power (8 * suc k) (w % 256)) (times_power (8 * k) (w / 256))
one_lookup k w =
    times_power-bytes k w
    ∙ ap (times_power (8 * k)) (times_power-split 8 w)
    ∙ times_power-xor (8 * k) (times_power 8 (w % 256)) (w / 256)
    ∙ ap (λ x. bit_xor x (times_power (8 * k) (w / 256))) (sym (times_power-bytes k (w % 256)))

lookups : (k i w sum : ℕ) → bit_xor sum (times_power (8 * k) (w / 256 ^ i)) ≡ bit_xor (xor_lookups sum (bytes_low_first i k w)) (w / 256 ^ (i + k))
unfolding times_power
lookups zero i w sum = ap (λ n. bit_xor sum (w / 256 ^ n)) (sym (add-zero i))
lookups (suc k) i w sum =
    ap (bit_xor sum) (one_lookup k (w / 256 ^ i))
    ∙ sym (xor_assoc sum (times_power (8 * suc k) (w / 256 ^ i % 256)) (times_power (8 * k) (w / 256 ^ i / 256)))
    ∙ ap (λ byte. bit_xor (bit_xor sum (times_power (8 * suc k) byte)) (times_power (8 * k) (w / 256 ^ i / 256))) (sym (byte_at_is i w))
    ∙ ap (λ x. bit_xor (bit_xor sum (times_power (8 * suc k) (byte_at i w))) (times_power (8 * k) x)) (div-div-eq-div-mul w (256 ^ i) 256 ∙ ap (λ x. w / x) (sym (pow-suc 256 i)))
    ∙ lookups k (suc i) w (bit_xor sum (times_power (8 * suc k) (byte_at i w)))
    ∙ ap (λ n. bit_xor (xor_lookups (bit_xor sum (times_power (8 * suc n) (byte_at i w))) (bytes_low_first (suc i) k w)) (w / 256 ^ (suc i + k))) (sym (length-bytes_low_first (suc i) k w))
    ∙ ap (λ n. bit_xor (xor_lookups sum (bytes_low_first i (suc k) w)) (w / 256 ^ n)) (omega arith)

pub lookups_of_word : (w : ℕ) → w < 2 ^ 64 → times_power 64 w ≡ xor_lookups 0 (to_le_bytes w64 w)
lookups_of_word w small =
    ap (times_power 64) (sym (div-one w))
    ∙ lookups 8 0 w 0
    ∙ ap (bit_xor (xor_lookups 0 (to_le_bytes w64 w))) (omega arith)
    ∙ xor_zero_r (xor_lookups 0 (to_le_bytes w64 w))

pub lookups_of_half : (w : ℕ) → w < 2 ^ 32 → times_power 32 w ≡ xor_lookups 0 (to_le_bytes w32 w)
lookups_of_half w small =
    ap (times_power 32) (sym (div-one w))
    ∙ lookups 4 0 w 0
    ∙ ap (bit_xor (xor_lookups 0 (to_le_bytes w32 w))) (omega arith)
    ∙ xor_zero_r (xor_lookups 0 (to_le_bytes w32 w))

-- the same with n more bytes of 0 after all
abbrev xor_lookups_ahead : ℕ → ℕ → List ℕ → ℕ
xor_lookups_ahead n sum [] = sum
xor_lookups_ahead n sum (byte ∷ bytes) = xor_lookups_ahead n (bit_xor sum (times_power (8 * (n + suc (length bytes))) byte)) bytes

lookups_further : (n sum : ℕ) (bytes : List ℕ) → times_power (8 * n) (xor_lookups sum bytes) ≡ xor_lookups_ahead n (times_power (8 * n) sum) bytes
lookups_further n sum [] = refl
lookups_further n sum (byte ∷ bytes) =
    let bits = 8 * suc (length bytes) in
    lookups_further n (bit_xor sum (times_power bits byte)) bytes
    ∙ ap (λ s. xor_lookups_ahead n s bytes)
    (times_power-xor (8 * n) sum (times_power bits byte)
    ∙ ap (bit_xor (times_power (8 * n) sum)) (sym (times_power-add (8 * n) bits byte) ∙ ap (λ k. times_power k byte) (omega arith)))

none_further : times_power 64 0 ≡ 0
unfolding times_power
none_further = refl

none_before_half : times_power 32 0 ≡ 0
unfolding times_power
none_before_half = refl

pub lookups_before_half : (w : ℕ) → w < 2 ^ 64 → times_power 96 w ≡ xor_lookups_ahead 4 0 (to_le_bytes w64 w)
lookups_before_half w small =
    times_power-add 32 64 w
    ∙ ap (times_power 32) (lookups_of_word w small)
    ∙ lookups_further 4 0 (to_le_bytes w64 w)
    ∙ ap (λ s. xor_lookups_ahead 4 s (to_le_bytes w64 w)) none_before_half

-- half a word with so many bytes of 0 behind it
pub lookups_of_half_before : (n w : ℕ) → w < 2 ^ 32
    → times_power (8 * (n + 4)) w ≡ bit_xor (bit_xor (bit_xor (times_power (8 * (n + 3 + 1)) (byte_at 0 w)) (times_power (8 * (n + 2 + 1)) (byte_at 1 w))) (times_power (8 * (n + 1 + 1)) (byte_at 2 w))) (times_power (8 * (n + 1)) (byte_at 3 w))
lookups_of_half_before n w small =
    let four : 8 * (n + 4) ≡ 8 * (n + 3 + 1) = omega arith in
    let three : 8 * (n + 3) ≡ 8 * (n + 2 + 1) = omega arith in
    let two : 8 * (n + 2) ≡ 8 * (n + 1 + 1) = omega arith in
    ap (λ k. times_power k w) (omega arith)
    ∙ times_power-add (8 * n) 32 w
    ∙ ap (times_power (8 * n)) (lookups_of_half w small)
    ∙ lookups_further n 0 (to_le_bytes w32 w)
    ∙ ap (λ s. xor_lookups_ahead n s (to_le_bytes w32 w)) (times_power-zero (8 * n))
    ∙ ap (λ x. bit_xor (bit_xor (bit_xor x (times_power (8 * (n + 3)) (byte_at 1 w))) (times_power (8 * (n + 2)) (byte_at 2 w))) (times_power (8 * (n + 1)) (byte_at 3 w))) (zero_xor (times_power (8 * (n + 4)) (byte_at 0 w)))
    ∙ ap (λ k. bit_xor (bit_xor (bit_xor (times_power k (byte_at 0 w)) (times_power (8 * (n + 3)) (byte_at 1 w))) (times_power (8 * (n + 2)) (byte_at 2 w))) (times_power (8 * (n + 1)) (byte_at 3 w))) four
    ∙ ap (λ k. bit_xor (bit_xor (bit_xor (times_power (8 * (n + 3 + 1)) (byte_at 0 w)) (times_power k (byte_at 1 w))) (times_power (8 * (n + 2)) (byte_at 2 w))) (times_power (8 * (n + 1)) (byte_at 3 w))) three
    ∙ ap (λ k. bit_xor (bit_xor (bit_xor (times_power (8 * (n + 3 + 1)) (byte_at 0 w)) (times_power (8 * (n + 2 + 1)) (byte_at 1 w))) (times_power k (byte_at 2 w))) (times_power (8 * (n + 1)) (byte_at 3 w))) two

pub lookups_ahead : (w : ℕ) → w < 2 ^ 64 → times_power 128 w ≡ xor_lookups_ahead 8 0 (to_le_bytes w64 w)
lookups_ahead w small =
    times_power-add 64 64 w
    ∙ ap (times_power 64) (lookups_of_word w small)
    ∙ lookups_further 8 0 (to_le_bytes w64 w)
    ∙ ap (λ s. xor_lookups_ahead 8 s (to_le_bytes w64 w)) none_further

pub fold_sixteen : (r : ℕ) (bytes : List ℕ) → length bytes ≡ 16 → ((i : ℕ) → get_or bytes i 0 < 2 ^ 8)
    → fold after_byte r bytes ≡ bit_xor (times_power 64 (from_le_bytes w64 (get_or bytes 8 0 ∷ get_or bytes 9 0 ∷ get_or bytes 10 0 ∷ get_or bytes 11 0 ∷ get_or bytes 12 0 ∷ get_or bytes 13 0 ∷ get_or bytes 14 0 ∷ get_or bytes 15 0 ∷ []))) (times_power 128 (bit_xor r (from_le_bytes w64 (get_or bytes 0 0 ∷ get_or bytes 1 0 ∷ get_or bytes 2 0 ∷ get_or bytes 3 0 ∷ get_or bytes 4 0 ∷ get_or bytes 5 0 ∷ get_or bytes 6 0 ∷ get_or bytes 7 0 ∷ []))))
fold_sixteen r (b0 ∷ b1 ∷ b2 ∷ b3 ∷ b4 ∷ b5 ∷ b6 ∷ b7 ∷ b8 ∷ b9 ∷ b10 ∷ b11 ∷ b12 ∷ b13 ∷ b14 ∷ b15 ∷ []) e small =
    let first = (b0 ∷ b1 ∷ b2 ∷ b3 ∷ b4 ∷ b5 ∷ b6 ∷ b7 ∷ []) in
    let second = (b8 ∷ b9 ∷ b10 ∷ b11 ∷ b12 ∷ b13 ∷ b14 ∷ b15 ∷ []) in
    let after_first = fold after_byte r first in
    let word = from_le_bytes w64 second in
    fold-eight after_first second refl (λ i. small (suc (suc (suc (suc (suc (suc (suc (suc i)))))))))
    ∙ times_power-xor 64 after_first word
    ∙ xor_comm (times_power 64 after_first) (times_power 64 word)
    ∙ ap (λ x. bit_xor (times_power 64 word) (times_power 64 x)) (fold-eight r first refl (first_small b0 b1 b2 b3 b4 b5 b6 b7 (small 0) (small 1) (small 2) (small 3) (small 4) (small 5) (small 6) (small 7)))
    ∙ ap (bit_xor (times_power 64 word)) (sym (times_power-add 64 64 (bit_xor r (from_le_bytes w64 first))))
  where
    first_small : (b0 b1 b2 b3 b4 b5 b6 b7 : ℕ) → b0 < 2 ^ 8 → b1 < 2 ^ 8 → b2 < 2 ^ 8 → b3 < 2 ^ 8 → b4 < 2 ^ 8 → b5 < 2 ^ 8 → b6 < 2 ^ 8 → b7 < 2 ^ 8 → (i : ℕ) → get_or (b0 ∷ b1 ∷ b2 ∷ b3 ∷ b4 ∷ b5 ∷ b6 ∷ b7 ∷ []) i 0 < 2 ^ 8
    first_small b0 b1 b2 b3 b4 b5 b6 b7 p0 p1 p2 p3 p4 p5 p6 p7 zero = p0
    first_small b0 b1 b2 b3 b4 b5 b6 b7 p0 p1 p2 p3 p4 p5 p6 p7 (suc zero) = p1
    first_small b0 b1 b2 b3 b4 b5 b6 b7 p0 p1 p2 p3 p4 p5 p6 p7 (suc (suc zero)) = p2
    first_small b0 b1 b2 b3 b4 b5 b6 b7 p0 p1 p2 p3 p4 p5 p6 p7 (suc (suc (suc zero))) = p3
    first_small b0 b1 b2 b3 b4 b5 b6 b7 p0 p1 p2 p3 p4 p5 p6 p7 (suc (suc (suc (suc zero)))) = p4
    first_small b0 b1 b2 b3 b4 b5 b6 b7 p0 p1 p2 p3 p4 p5 p6 p7 (suc (suc (suc (suc (suc zero))))) = p5
    first_small b0 b1 b2 b3 b4 b5 b6 b7 p0 p1 p2 p3 p4 p5 p6 p7 (suc (suc (suc (suc (suc (suc zero)))))) = p6
    first_small b0 b1 b2 b3 b4 b5 b6 b7 p0 p1 p2 p3 p4 p5 p6 p7 (suc (suc (suc (suc (suc (suc (suc zero))))))) = p7
    first_small b0 b1 b2 b3 b4 b5 b6 b7 p0 p1 p2 p3 p4 p5 p6 p7 (suc (suc (suc (suc (suc (suc (suc (suc i)))))))) = omega arith
fold_sixteen _ _ e small = absurd (omega arith)

-- a number in four bytes with twelve more of 0 behind them
pub remainder-number : (r : ℕ) → r < 2 ^ 32 → (bs : List ℕ) → bs ≡ to_le_bytes w32 r
    → remainder (get_or bs 0 0 ∷ get_or bs 1 0 ∷ get_or bs 2 0 ∷ get_or bs 3 0 ∷ replicate 12 0) ≡ times_power 128 r
remainder-number r fits bs e =
    let bytes = r % 256 ∷ r / 256 % 256 ∷ r / 65536 % 256 ∷ r / 16777216 % 256 ∷ replicate 12 0 in
    let small : Each1 (λ x. x < 256) bytes = (omega arith, (omega arith, (omega arith, (omega arith, Each1-replicate (λ x. x < 256) 12 0 (omega arith))))) in
    let number : number_of bytes ≡ r = omega arith in
    subst (λ bs. remainder (get_or bs 0 0 ∷ get_or bs 1 0 ∷ get_or bs 2 0 ∷ get_or bs 3 0 ∷ replicate 12 0) ≡ times_power 128 r) (sym e)
    (fold-after_byte 0 bytes (lane_below bytes small) ∙ ap (times_power 128) (xor_comm 0 (number_of bytes) ∙ xor_zero_r (number_of bytes) ∙ number))

-- ---- a gap that counts as zeros until it is filled

-- what is added to a remainder stays added behind further bytes
after_byte-xor : (r x byte : ℕ) → after_byte (bit_xor r x) byte ≡ bit_xor (after_byte r byte) (times_power 8 x)
after_byte-xor r x byte =
    ap (times_power 8) (xor_assoc r x byte ∙ ap (bit_xor r) (xor_comm x byte) ∙ sym (xor_assoc r byte x))
    ∙ times_power-xor 8 (bit_xor r byte) x

fold-xor : (r x : ℕ) (bytes : List ℕ) → fold after_byte (bit_xor r x) bytes ≡ bit_xor (fold after_byte r bytes) (times_power (8 * length bytes) x)
unfolding times_power
fold-xor r x [] = refl
fold-xor r x (byte ∷ bytes) =
    ap (λ s. fold after_byte s bytes) (after_byte-xor r x byte)
    ∙ fold-xor (after_byte r byte) (times_power 8 x) bytes
    ∙ ap (bit_xor (fold after_byte (after_byte r byte) bytes)) (sym (times_power-bytes (length bytes) x))

word_small : (w i : ℕ) → get_or (to_le_bytes w64 w) i 0 < 2 ^ 8
word_small w zero = omega arith
word_small w (suc zero) = omega arith
word_small w (suc (suc zero)) = omega arith
word_small w (suc (suc (suc zero))) = omega arith
word_small w (suc (suc (suc (suc zero)))) = omega arith
word_small w (suc (suc (suc (suc (suc zero))))) = omega arith
word_small w (suc (suc (suc (suc (suc (suc zero)))))) = omega arith
word_small w (suc (suc (suc (suc (suc (suc (suc zero))))))) = omega arith
word_small w (suc (suc (suc (suc (suc (suc (suc (suc i)))))))) = omega arith

half_small : (w i : ℕ) → get_or (to_le_bytes w32 w) i 0 < 2 ^ 8
half_small w zero = omega arith
half_small w (suc zero) = omega arith
half_small w (suc (suc zero)) = omega arith
half_small w (suc (suc (suc zero))) = omega arith
half_small w (suc (suc (suc (suc i)))) = omega arith

fold-word : (r w : ℕ) → w < 2 ^ 64 → fold after_byte r (to_le_bytes w64 w) ≡ times_power 64 (bit_xor r w)
fold-word r w fits =
    fold-eight r (to_le_bytes w64 w) refl (word_small w)
    ∙ ap (λ x. times_power 64 (bit_xor r x)) (from_le_bytes-to_le_bytes_8 w fits)

fold-half : (r w : ℕ) → w < 2 ^ 32 → fold after_byte r (to_le_bytes w32 w) ≡ times_power 32 (bit_xor r w)
fold-half r w fits =
    fold-four r (to_le_bytes w32 w) refl (half_small w)
    ∙ ap (λ x. times_power 32 (bit_xor r x)) (from_le_bytes-to_le_bytes_4 w fits)

fold-zeros : (r : ℕ) → fold after_byte r (to_le_bytes w64 0) ≡ times_power 64 r
fold-zeros r = fold-word r 0 (omega arith) ∙ ap (times_power 64) (xor_zero_r r)

-- a word, zeros and four bytes
pub fold-round_gap : (r before behind : ℕ) (fed : List ℕ) → before < 2 ^ 64 → behind < 2 ^ 32 → r ≡ remainder_of fed
    → times_power 32 (bit_xor (times_power 128 (bit_xor r before)) behind) ≡ remainder_of (fed ++ to_le_bytes w64 before ++ to_le_bytes w64 0 ++ to_le_bytes w32 behind)
fold-round_gap r before behind fed before_fits behind_fits e =
    let first = fed ++ to_le_bytes w64 before in
    let second = first ++ to_le_bytes w64 0 in
    let one : fold after_byte 0xFFFFFFFF first ≡ times_power 64 (bit_xor r before) = fold-append after_byte 0xFFFFFFFF fed (to_le_bytes w64 before) ∙ ap (λ s. fold after_byte s (to_le_bytes w64 before)) (sym e) ∙ fold-word r before before_fits in
    let two : fold after_byte 0xFFFFFFFF second ≡ times_power 128 (bit_xor r before) = fold-append after_byte 0xFFFFFFFF first (to_le_bytes w64 0) ∙ ap (λ s. fold after_byte s (to_le_bytes w64 0)) one ∙ fold-zeros (times_power 64 (bit_xor r before)) ∙ sym (times_power-add 64 64 (bit_xor r before)) in
    sym (fold-append after_byte 0xFFFFFFFF second (to_le_bytes w32 behind) ∙ ap (λ s. fold after_byte s (to_le_bytes w32 behind)) two ∙ fold-half (times_power 128 (bit_xor r before)) behind behind_fits)

-- the zeros before four bytes are filled
pub fold-gap_filled : (r word : ℕ) (fed four : List ℕ) → word < 2 ^ 64 → length four ≡ 4 → r ≡ remainder_of (fed ++ to_le_bytes w64 0 ++ four)
    → bit_xor r (times_power 96 word) ≡ remainder_of (fed ++ to_le_bytes w64 word ++ four)
fold-gap_filled r word fed four fits four_bytes e =
    let begun = fold after_byte 0xFFFFFFFF fed in
    let behind : ℕ → ℕ = λ s. fold after_byte s four in
    let zeros : r ≡ behind (times_power 64 begun) = e ∙ fold-append after_byte 0xFFFFFFFF (fed ++ to_le_bytes w64 0) four ∙ ap behind (fold-append after_byte 0xFFFFFFFF fed (to_le_bytes w64 0) ∙ fold-zeros begun) in
    let bits : times_power (8 * length four) (times_power 64 word) ≡ times_power 96 word = ap (λ n. times_power (8 * n) (times_power 64 word)) four_bytes ∙ sym (times_power-add 32 64 word) in
    sym (fold-append after_byte 0xFFFFFFFF (fed ++ to_le_bytes w64 word) four
    ∙ ap behind (fold-append after_byte 0xFFFFFFFF fed (to_le_bytes w64 word) ∙ fold-word begun word fits ∙ times_power-xor 64 begun word)
    ∙ fold-xor (times_power 64 begun) (times_power 64 word) four
    ∙ ap (bit_xor (behind (times_power 64 begun))) bits
    ∙ ap (λ s. bit_xor s (times_power 96 word)) (sym zeros))
