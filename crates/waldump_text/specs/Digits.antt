-- Numbers in a fixed count of decimal digits.
use Rattle.std.specs.Prelude.{ℕ, ◌+◌, ◌/◌, ◌%◌, List, [], ◌∷◌}

-- the digit of a number at a place, which is 1, 10, 100 and so on: `0` is 48
abbrev pub digit_at : ℕ → ℕ → ℕ
digit_at place n = 48 + n / place % 10

abbrev pub two_digits : ℕ → List ℕ
two_digits n = digit_at 10 n ∷ digit_at 1 n ∷ []

abbrev pub four_digits : ℕ → List ℕ
four_digits n = digit_at 1000 n ∷ digit_at 100 n ∷ digit_at 10 n ∷ digit_at 1 n ∷ []

abbrev pub six_digits : ℕ → List ℕ
six_digits n =
    digit_at 100000 n ∷ digit_at 10000 n ∷ digit_at 1000 n ∷ digit_at 100 n ∷ digit_at 10 n
    ∷ digit_at 1 n ∷ []
