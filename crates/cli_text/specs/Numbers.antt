-- Numbers in decimal digits.
use Rattle.std.specs.Prelude.{ℕ, ◌-◌, ◌^◌, Bool, ◌&&◌, List, [], ◌∷◌, length, map, Option, Some, None, ◌==◌, nat_le, if◌then◌else◌}
use Rattle.std.specs.List.{list_all}
use Rattle.std.specs.Int.Digits.{number_from_digits}

abbrev pub is_digit : ℕ → Bool
is_digit c = nat_le 48 c && nat_le c 57

-- the value of a digit
abbrev pub digit_of : ℕ → Option ℕ
digit_of c = if is_digit c then Some (c - 48) else None

-- whether a field is 1 to 20 decimal digits
abbrev pub is_decimal : List ℕ → Bool
is_decimal field = nat_le 1 (length field) && nat_le (length field) 20 && list_all is_digit field

-- the number that digits spell
abbrev pub decimal_value : List ℕ → ℕ
decimal_value field = number_from_digits 10 (map (λ c. c - 48) field)

-- a number of at most `most`
abbrev pub number_of : ℕ → List ℕ → Option ℕ
number_of most field =
    if is_decimal field && nat_le (decimal_value field) most
    then Some (decimal_value field) else None

-- the 64 bits of the signed number below 0 that these digits spell behind `-`; the digits alone
-- spell at most `most`
abbrev pub negated : ℕ → List ℕ → Option ℕ
negated most digits =
    if is_decimal digits && nat_le 1 (decimal_value digits) && nat_le (decimal_value digits) most
    then Some (2 ^ 64 - decimal_value digits) else None

-- a time in microseconds, as the 64 bits of a signed number: digits, with `-` in front where it is
-- below 0
abbrev pub time_of : List ℕ → Option ℕ
time_of [] = None
time_of (c ∷ cs) = if c == 45 then negated (2 ^ 63) cs else number_of (2 ^ 63 - 1) (c ∷ cs)
