-- Numbers in hexadecimal digits, in upper case.
use Rattle.std.specs.Prelude.{ℕ, ◌+◌, ◌/◌, ◌%◌, ◌^◌, List, [], ◌∷◌, nat_lt, if◌then◌else◌}

-- the digit for a number below 16: 48 is `0`, 55 + 10 is `A`
abbrev pub upper_digit : ℕ → ℕ
upper_digit d = if nat_lt d 10 then 48 + d else 55 + d

-- the digit of 16 ^ k in a number
abbrev pub upper_digit_at : ℕ → ℕ → ℕ
upper_digit_at k n = upper_digit (n / 16 ^ k % 16)

-- a number below 2 ^ 32 in eight digits (`%08X`)
abbrev pub eight_digits : ℕ → List ℕ
eight_digits n =
    upper_digit_at 7 n ∷ upper_digit_at 6 n ∷ upper_digit_at 5 n ∷ upper_digit_at 4 n
    ∷ upper_digit_at 3 n ∷ upper_digit_at 2 n ∷ upper_digit_at 1 n ∷ upper_digit_at 0 n ∷ []
