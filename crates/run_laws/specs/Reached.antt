-- That an address is no less than each end that lines were told.
use Rattle.std.specs.Prelude.{ℕ, ◌≤◌, All, IfSome, List}
use Rattle.run_laws.specs.declared.told.Told.{Told}
use Rattle.run_laws.specs.Told.{PlaceTold, place_told}

-- where an answer tells a record's end, the record ends at or below this address
abbrev pub EndsBy : ℕ → Told → Type 0
EndsBy address told = IfSome (place_told told) (λ (place : PlaceTold). place.end.0 ≤ address)

-- the log's start, and each record's end that some backend was told, are at or below this address;
-- `size` is that of a segment, the first of which is not the log's
pub record ReachesAll (size address : ℕ) (lists : List (List Told)) : Type 0 where
  pub begun : size ≤ address
  pub ends : All (λ (told : List Told). All (EndsBy address) told) lists
