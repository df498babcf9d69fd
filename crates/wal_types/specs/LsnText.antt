-- The text of a position of the log.
use Rattle.std.specs.Prelude.{ℕ, ◌/◌, ◌%◌, ◌^◌, List, [], ◌∷◌, ◌++◌, ◌==◌, if◌then◌else◌}
use Rattle.wal_types.specs.Hexadecimal.{eight_digits}

-- digits without the zeros before them; the last digit stays
abbrev pub without_leading_zeros : List ℕ → List ℕ
without_leading_zeros [] = []
without_leading_zeros (d ∷ []) = d ∷ []
without_leading_zeros (d ∷ e ∷ ds) = if d == 48 then without_leading_zeros (e ∷ ds) else d ∷ e ∷ ds

-- `%X/%08X`: the upper and the lower four bytes of the address, parted by a slash (PostgreSQL's
-- LSN_FORMAT_ARGS)
abbrev pub lsn_text : ℕ → List ℕ
lsn_text address =
    without_leading_zeros (eight_digits (address / 2 ^ 32))
    ++ 47 ∷ eight_digits (address % 2 ^ 32)
