-- The zeros in front of a number, and the text that two numbers make.
use Rattle.std.proofs.Common.{◌≡◌, ℕ, ◌+◌, ◌/◌, ◌%◌, ◌^◌, ◌<◌, ◌≤◌, List, [], ◌∷◌, ◌++◌, codes, length, drop, get_or, refl, ap, ◌∙◌, arith}
use Rattle.std.proofs.lemmas.List.{append-nil, drop-append-le, length-drop}
use Rattle.std.proofs.lemmas.List.FromFn.{get_or-map-range_with_len}
use borrow.Rule.Slice.PartMut.{put_mid}
use Rattle.wal_types.specs.Hexadecimal.{eight_digits, upper_digit}
use Rattle.wal_types.specs.LsnText.{without_leading_zeros}

-- the digit that the table has for a number
pub digit_in_table : (d n : ℕ) → n < 16 → d ≡ n → get_or (codes "0123456789ABCDEF") d 0 ≡ upper_digit n
digit_in_table d n small same = get_or-map-range_with_len upper_digit 0 16 d n 0 (omega arith) (omega arith)

all_zeros : (a b c d e f g last : ℕ) → a ≡ 0 → b ≡ 0 → c ≡ 0 → d ≡ 0 → e ≡ 0 → f ≡ 0 → g ≡ 0
    → without_leading_zeros (upper_digit a ∷ upper_digit b ∷ upper_digit c ∷ upper_digit d ∷ upper_digit e ∷ upper_digit f ∷ upper_digit g ∷ last ∷ []) ≡ last ∷ []
all_zeros a b c d e f g last p q r s t u v = rw (p, q, r, s, t, u, v) refl

-- a number below 16 has one digit that counts
pub below_sixteen : (n : ℕ) → n < 16 → without_leading_zeros (eight_digits n) ≡ upper_digit (n % 16) ∷ []
below_sixteen n small =
    let seventh : n / 16 ^ 7 % 16 ≡ 0 = omega arith in
    let sixth : n / 16 ^ 6 % 16 ≡ 0 = omega arith in
    let fifth : n / 16 ^ 5 % 16 ≡ 0 = omega arith in
    let fourth : n / 16 ^ 4 % 16 ≡ 0 = omega arith in
    let third : n / 16 ^ 3 % 16 ≡ 0 = omega arith in
    let second : n / 16 ^ 2 % 16 ≡ 0 = omega arith in
    let first : n / 16 ^ 1 % 16 ≡ 0 = omega arith in
    let last : n / 16 ^ 0 % 16 ≡ n % 16 = omega arith in
    all_zeros _ _ _ _ _ _ _ _ seventh sixth fifth fourth third second first ∙ ap (λ d. upper_digit d ∷ []) last

one_digit : (ds : List ℕ) → length ds ≡ 1 → ds ≡ without_leading_zeros ds
one_digit [] h = refl
one_digit (d ∷ []) h = refl
one_digit (d ∷ e ∷ ds) h = absurd (omega arith)

-- the last digit stays
pub drop_to_last : (ds : List ℕ) (n : ℕ) → n < length ds → length ds ≤ n + 1 → drop n ds ≡ without_leading_zeros (drop n ds)
drop_to_last ds n h k = one_digit (drop n ds) (omega (arith, length-drop n ds))

-- what an array of slashes is once both numbers are in it
slashed : (high low : List ℕ) → length high ≡ 8 → put_mid 9 8 (high ++ 47 ∷ 47 ∷ 47 ∷ 47 ∷ 47 ∷ 47 ∷ 47 ∷ 47 ∷ 47 ∷ []) low ≡ high ++ 47 ∷ low
slashed (a ∷ b ∷ c ∷ d ∷ e ∷ f ∷ g ∷ h ∷ []) low long = ap (λ t. (a ∷ b ∷ c ∷ d ∷ e ∷ f ∷ g ∷ h ∷ []) ++ 47 ∷ t) (append-nil low)
slashed _ low long = absurd (omega arith)

-- the digits from the first that counts on
pub drop_slashed : (h l high low text : List ℕ) (n : ℕ) → h ≡ high → l ≡ low → length high ≡ 8 → n < length high → drop n high ≡ text
    → drop n (put_mid 9 8 (h ++ 47 ∷ 47 ∷ 47 ∷ 47 ∷ 47 ∷ 47 ∷ 47 ∷ 47 ∷ 47 ∷ []) l) ≡ text ++ 47 ∷ low
drop_slashed h l high low text n p q long b is =
    rw (p, q) (ap (drop n) (slashed high low long) ∙ drop-append-le n high (47 ∷ low) (omega arith) ∙ ap (λ t. t ++ 47 ∷ low) is)
