-- Bytes as scripts spell them.
use Rattle.std.specs.Prelude.{ℕ, ◌+◌, ◌-◌, ◌*◌, Bool, ◌&&◌, List, [], ◌∷◌, length, take, drop, replicate, slice_index, Option, Some, None, codes, ◌==◌, nat_le, if◌then◌else◌}
use Rattle.cli_text.specs.Hexadecimal.{hexadecimal_value}
use Rattle.cli_text.specs.Numbers.{number_of}
use Rattle.run_script.specs.Text.{is_text}

-- a byte by the values of its two digits
abbrev pub pair_of : Option ℕ → Option ℕ → Option ℕ
pair_of None low = None
pair_of (Some high) None = None
pair_of (Some high) (Some low) = Some (high * 16 + low)

-- the byte that a field of two digits spells
abbrev pub byte_spelled : List ℕ → Option ℕ
byte_spelled (high ∷ low ∷ []) = pair_of (hexadecimal_value high) (hexadecimal_value low)
byte_spelled others = None

abbrev pub onto : Option ℕ → Option (List ℕ) → Option (List ℕ)
onto None bytes = None
onto (Some byte) None = None
onto (Some byte) (Some bytes) = Some (byte ∷ bytes)

-- the bytes that digits spell, two digits each
abbrev pub bytes_of : List ℕ → Option (List ℕ)
bytes_of [] = Some []
bytes_of (digit ∷ []) = None
bytes_of (high ∷ low ∷ digits) =
    onto (pair_of (hexadecimal_value high) (hexadecimal_value low)) (bytes_of digits)

abbrev pub above_zero : Option ℕ → Option ℕ
above_zero None = None
above_zero (Some n) = if n == 0 then None else Some n

-- `COUNT*hh`: so many bytes hh, from 1 to 1048576
abbrev pub copies : Option ℕ → Option ℕ → Option (List ℕ)
copies None byte = None
copies (Some count) None = None
copies (Some count) (Some byte) = Some (replicate count byte)

abbrev pub repeated_of : List ℕ → List ℕ → Option (List ℕ)
repeated_of count byte = copies (above_zero (number_of 1048576 count)) (byte_spelled byte)

-- whether a star stands in front of a field's last two bytes
abbrev pub has_star : List ℕ → Bool
has_star field = nat_le 3 (length field) && (slice_index field (length field - 3) == 42)

-- data: `-` for none, `COUNT*hh`, or the digits of one byte or more
abbrev pub data_of : List ℕ → Option (List ℕ)
data_of field =
    if is_text field (codes "-") then Some []
    else (if has_star field
    then repeated_of (take (length field - 3) field) (drop (length field - 2) field)
    else (if length field == 0 then None else bytes_of field))
