-- The bytes that a record was read from.
use Rattle.std.specs.Prelude.{◌≡◌, ℕ, List, length}
use Rattle.wal_record.specs.Spells.{Spells}
use Rattle.byte_position.specs.Position.{position_of}
use Rattle.wal_reader.specs.declared.found.FoundRecord.{FoundRecord}
use Rattle.wal_reader.specs.Pages.{Pages, bytes_from}
use Rattle.wal_reader.specs.declared.standing.Step.{Step}
use Rattle.wal_reader.specs.Standings.{found_as}
use Rattle.wal_reader.specs.declared.standing.Step.TheVariants as steps

-- bytes that spell a record, as many as its size says
pub record HasSpelling (found : FoundRecord) : Type 0 where
  pub bytes : List ℕ
  pub length_is : length bytes ≡ found.head.total
  pub spelled : Spells bytes found.value

-- a record was read from bytes that spell it
unfoldable pub IsSpelled : FoundRecord → Type 0
IsSpelled found = HasSpelling found

-- so was the record that a step gives
abbrev pub GivesSpelled : Step → Type 0
GivesSpelled (steps.Record start end prev total value) =
    IsSpelled (found_as start end prev total value)
GivesSpelled (steps.End at) = Unit {0}

-- a record's bytes in these pages, each from its own address on, spell it
unfoldable pub IsSpelledIn : ℕ → Pages → FoundRecord → Type 0
IsSpelledIn size pages found =
    Spells (bytes_from size pages found.head.total (position_of size found.head.start.0))
    found.value

-- so do those of the record that a step gives
abbrev pub GivesSpelledIn : ℕ → Pages → Step → Type 0
GivesSpelledIn size pages (steps.Record start end prev total value) =
    IsSpelledIn size pages (found_as start end prev total value)
GivesSpelledIn size pages (steps.End at) = Unit {0}
