-- Hexadecimal digits.
use Rattle.std.specs.Prelude.{ℕ, ◌-◌, Bool, ◌&&◌, Option, Some, None, is_some, nat_le, unwrap_or, if◌then◌else◌}

-- the value of a hexadecimal digit, in either case: `0` is 48, `A` 65 and `a` 97
abbrev pub hexadecimal_value : ℕ → Option ℕ
hexadecimal_value c =
    if nat_le 48 c && nat_le c 57 then Some (c - 48)
    else (if nat_le 65 c && nat_le c 70 then Some (c - 55)
    else (if nat_le 97 c && nat_le c 102 then Some (c - 87) else None))

-- whether a byte is such a digit, and its value, 0 where it is none
abbrev pub is_hexadecimal_digit : ℕ → Bool
is_hexadecimal_digit c = is_some (hexadecimal_value c)

abbrev pub hexadecimal_digit : ℕ → ℕ
hexadecimal_digit c = unwrap_or (hexadecimal_value c) 0
