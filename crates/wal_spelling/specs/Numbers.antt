-- Numbers in bytes, the lowest byte first.
use Rattle.std.specs.Prelude.{ℕ, List, take, drop}
use Rattle.std.specs.Int.{Width, byte_len, from_le_bytes}

-- a number of a width at an offset
abbrev pub number_at : Width → List ℕ → ℕ → ℕ
number_at w bytes at = from_le_bytes w (take (byte_len w) (drop at bytes))
