-- Tables of checks.
use Rattle.std.specs.Prelude.{Bool, List, [], ◌∷◌, Option, Some, None, if◌then◌else◌}

-- of checks in their order, each with what is told where it fails, the first that fails
abbrev pub first_fault : {K : Type 0} → List (Bool × K) → Option K
first_fault [] = None
first_fault (row ∷ rows) = if row.0 then Some row.1 else first_fault rows
