-- Counts of answers of several backends.
use Rattle.std.specs.Prelude.{ℕ, ◌+◌, List, [], ◌∷◌}
use Rattle.run_laws.specs.declared.told.Told.{Told}
use Rattle.run_laws.specs.Counts.{reserved_count}

-- how many answers say that a record was reserved
abbrev pub all_reserved_count : List (List Told) → ℕ
all_reserved_count [] = 0
all_reserved_count (told ∷ lists) = reserved_count told + all_reserved_count lists
