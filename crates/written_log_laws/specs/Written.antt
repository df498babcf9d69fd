-- Entries as a reader finds them.
use Rattle.std.specs.Prelude.{ℕ, List, [], ◌∷◌}
use Rattle.byte_position.specs.Position.{address_of}
use Rattle.wal_spelling.specs.Spelling.{size_of}
use Rattle.wal_page.specs.Order.{Entry, finish_of}
use Rattle.wal_reader.specs.declared.found.FoundRecord.{FoundRecord}

-- an entry as a reader finds it behind a record that starts at `prev`
abbrev pub found_entry : ℕ → ℕ → Entry → FoundRecord
found_entry size prev e = record {
  head = record {
    start = record { 0 = address_of size e.start };
    end = record { 0 = finish_of size e };
    prev = record { 0 = prev };
    total = size_of e.value;
  };
  value = e.value;
}

-- entries, one behind another
abbrev pub found_from : ℕ → ℕ → List Entry → List FoundRecord
found_from size prev [] = []
found_from size prev (e ∷ es) =
    found_entry size prev e ∷ found_from size (address_of size e.start) es

-- all entries of an order
abbrev pub found_of : ℕ → List Entry → List FoundRecord
found_of size es = found_from size 0 es
