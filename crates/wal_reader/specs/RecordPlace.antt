-- Which places of records reading comes to.
use Rattle.std.specs.Prelude.{◌≡◌, ℕ, true, ◌%◌, ◌^◌, ◌<◌, ◌≤◌, ◌⊎◌, Option}
use Rattle.byte_position.specs.Position.{address_of}
use Rattle.wal_reader.specs.declared.record_place.RecordPlace.{RecordPlace}
use Rattle.wal_reader.specs.Decodes.{is_at_end}

-- a place that reading comes to: records start at whole words, and below address 2 ^ 60
pub record IsReachable (at : RecordPlace) : Type 0 where
  pub aligned : at.position % 8 ≡ 0
  pub bounded : at.position < 2 ^ 60

-- a byte position that is not read: from a given end on, or from address 2 ^ 60 on
abbrev pub IsOutOfReach : ℕ → Option ℕ → ℕ → Type 0
IsOutOfReach size end position =
    (is_at_end end (address_of size position) ≡ true) ⊎ (2 ^ 60 ≤ address_of size position)
