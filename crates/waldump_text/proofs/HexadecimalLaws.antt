-- Bytes in hexadecimal, part by part.
use Rattle.std.proofs.Common.{◌≡◌, ℕ, suc, ◌+◌, ◌-◌, ◌*◌, ◌/◌, ◌%◌, ◌<◌, ◌≤◌, List, [], ◌∷◌, ◌++◌, map, codes, length, take, drop, get_or, refl, sym, ap, ◌∙◌, append_assoc, arith}
use Rattle.std.proofs.Math.Seq.{take-append_seam}
use Rattle.std.proofs.lemmas.List.{length-append, length-drop, take-append-drop, take-append-le}
use Rattle.std.proofs.lemmas.List.FromFn.{get_or-map-range_with_len}
use lib.Lanes.{pick_l}
use Rattle.hex.specs.Hex.{encode_lower, encode_with, lower_digits}
use Rattle.waldump_text.specs.Names.{hexadecimal, lower_digit}

pub hexadecimal-append : (a b : List ℕ) → hexadecimal (a ++ b) ≡ hexadecimal a ++ hexadecimal b
hexadecimal-append [] b = refl
hexadecimal-append (x ∷ a) b = ap (λ digits. lower_digit (x / 16 % 16) ∷ lower_digit (x % 16) ∷ digits) (hexadecimal-append a b)

pub length-hexadecimal : (bytes : List ℕ) → length (hexadecimal bytes) ≡ 2 * length bytes
length-hexadecimal [] = refl
length-hexadecimal (b ∷ bytes) = omega (arith, length-hexadecimal bytes)

-- the digits of the last sixteen bytes may be made again, over those of bytes before the rest
pub digits_again : (old made rest bytes last : List ℕ) → made ++ hexadecimal rest ≡ old ++ hexadecimal bytes
    → 16 ≤ length bytes → length rest ≤ 16 → last ≡ drop (length bytes - 16) bytes
    → take (length made - (32 - 2 * length rest)) made ++ hexadecimal last ≡ old ++ hexadecimal bytes
digits_again old made rest bytes last same long few is =
    let front = take (length bytes - 16) bytes in
    let whole : bytes ≡ front ++ last = sym (ap (λ l. front ++ l) is ∙ take-append-drop (length bytes - 16) bytes) in
    let parts : old ++ hexadecimal bytes ≡ (old ++ hexadecimal front) ++ hexadecimal last =
    ap (λ l. old ++ hexadecimal l) whole ∙ ap (λ l. old ++ l) (hexadecimal-append front last) ∙ sym (append_assoc old (hexadecimal front) (hexadecimal last)) in
    let sixteen : length last ≡ 16 = omega (arith, ap length is, length-drop (length bytes - 16) bytes) in
    let behind : length made + 2 * length rest ≡ length (old ++ hexadecimal front) + 32 =
    omega (arith, ap length (same ∙ parts), length-append made (hexadecimal rest), length-append (old ++ hexadecimal front) (hexadecimal last), length-hexadecimal rest, length-hexadecimal last) in
    let count : length made - (32 - 2 * length rest) ≡ length (old ++ hexadecimal front) = omega arith in
    ap (λ n. take n made ++ hexadecimal last) count
    ∙ ap (λ l. l ++ hexadecimal last) (sym (take-append-le (length (old ++ hexadecimal front)) made (hexadecimal rest) (omega arith))
    ∙ ap (take (length (old ++ hexadecimal front))) (same ∙ parts) ∙ take-append_seam (old ++ hexadecimal front) (hexadecimal last))
    ∙ sym parts

-- so many digits are made by then
pub enough_made : (old made rest bytes : List ℕ) → made ++ hexadecimal rest ≡ old ++ hexadecimal bytes
    → 16 ≤ length bytes → 32 - 2 * length rest ≤ length made
enough_made old made rest bytes same long =
    omega (arith, ap length same, length-append made (hexadecimal rest), length-append old (hexadecimal bytes), length-hexadecimal rest, length-hexadecimal bytes)

-- the digit that the table has for a number
get_or-lower_digits : (d n : ℕ) → n < 16 → d ≡ n → get_or lower_digits d 0 ≡ lower_digit n
get_or-lower_digits d n small same = get_or-map-range_with_len lower_digit 0 16 d n 0 (omega arith) (omega arith)

-- what the crate hex spells is the same
pub encode_lower-is_hexadecimal : (bytes : List ℕ) → ((i : ℕ) → get_or bytes i 0 < 256) → encode_lower bytes ≡ hexadecimal bytes
unfolding encode_with
encode_lower-is_hexadecimal [] small = refl
encode_lower-is_hexadecimal (b ∷ bytes) small =
    let first = small 0 in
    let high = get_or-lower_digits (b / 16) (b / 16 % 16) (omega arith) (omega arith) in
    let low = get_or-lower_digits (b % 16) (b % 16) (omega arith) refl in
    ap (λ d. d ∷ get_or lower_digits (b % 16) 0 ∷ encode_lower bytes) high
    ∙ ap (λ d. lower_digit (b / 16 % 16) ∷ d ∷ encode_lower bytes) low
    ∙ ap (λ digits. lower_digit (b / 16 % 16) ∷ lower_digit (b % 16) ∷ digits) (encode_lower-is_hexadecimal bytes (λ i. small (suc i)))

-- what two functions give for each, side by side
abbrev side_by_side : (ℕ → ℕ) → (ℕ → ℕ) → List ℕ → List ℕ
side_by_side f g [] = []
side_by_side f g (x ∷ xs) = f x ∷ g x ∷ side_by_side f g xs

-- the places of two vectors' lanes, taken in turns
abbrev in_turns : List ℕ
in_turns = 0 ∷ 16 ∷ 1 ∷ 17 ∷ 2 ∷ 18 ∷ 3 ∷ 19 ∷ 4 ∷ 20 ∷ 5 ∷ 21 ∷ 6 ∷ 22 ∷ 7 ∷ 23 ∷ 8 ∷ 24 ∷ 9 ∷ 25 ∷ 10 ∷ 26 ∷ 11 ∷ 27 ∷ 12 ∷ 28 ∷ 13 ∷ 29 ∷ 14 ∷ 30 ∷ 15 ∷ 31 ∷ []

taken_in_turns : (f g : ℕ → ℕ) (v : List ℕ) → length v ≡ 16 → pick_l 0 (map f v ++ map g v) in_turns ≡ side_by_side f g v
taken_in_turns f g (b0 ∷ b1 ∷ b2 ∷ b3 ∷ b4 ∷ b5 ∷ b6 ∷ b7 ∷ b8 ∷ b9 ∷ b10 ∷ b11 ∷ b12 ∷ b13 ∷ b14 ∷ b15 ∷ []) e = refl
taken_in_turns f g _ e = absurd (omega arith)

-- the digit that the vector of digits has for a number
abbrev digit_at : ℕ → ℕ
digit_at n = get_or (codes "0123456789abcdef") n 0

digit_at-is : (d n : ℕ) → n < 16 → d ≡ n → digit_at d ≡ lower_digit n
digit_at-is d n small same = get_or-map-range_with_len lower_digit 0 16 d n 0 (omega arith) (omega arith)

abbrev digits_of : List ℕ → List ℕ
digits_of = side_by_side (λ b. digit_at (b / 16)) (λ b. digit_at (b % 16))

digits_of-is_hexadecimal : (bytes : List ℕ) → ((i : ℕ) → get_or bytes i 0 < 256) → digits_of bytes ≡ hexadecimal bytes
digits_of-is_hexadecimal [] small = refl
digits_of-is_hexadecimal (b ∷ bytes) small =
    let first = small 0 in
    let high = digit_at-is (b / 16) (b / 16 % 16) (omega arith) (omega arith) in
    let low = digit_at-is (b % 16) (b % 16) (omega arith) refl in
    ap (λ d. d ∷ digit_at (b % 16) ∷ digits_of bytes) high
    ∙ ap (λ d. lower_digit (b / 16 % 16) ∷ d ∷ digits_of bytes) low
    ∙ ap (λ digits. lower_digit (b / 16 % 16) ∷ lower_digit (b % 16) ∷ digits) (digits_of-is_hexadecimal bytes (λ i. small (suc i)))

-- the digits of both halves, each looked up, taken in turns
pub sixteen-in_turns : (bytes : List ℕ) → length bytes ≡ 16 → ((i : ℕ) → get_or bytes i 0 < 256)
    → pick_l 0 (map (λ b. digit_at (b / 16)) bytes ++ map (λ b. digit_at (b % 16)) bytes) in_turns ≡ hexadecimal bytes
sixteen-in_turns bytes long small = taken_in_turns (λ b. digit_at (b / 16)) (λ b. digit_at (b % 16)) bytes long ∙ digits_of-is_hexadecimal bytes small
