-- That an entry is found in whatever a crash leaves.
use Rattle.std.specs.Prelude.{◌≡◌, ℕ, ◌≤◌, Contains, List, None, take}
use Rattle.segment_disk.specs.DiskImage.{DiskImage, LeftAt}
use Rattle.segment_disk.specs.Tape.{Tape}
use Rattle.wal_page.specs.Order.{Entry}
use Rattle.wal_reader.specs.declared.found.Answer.{Answer}
use Rattle.wal_reader.specs.declared.found.FoundRecord.{FoundRecord}
use Rattle.wal_reader.specs.Decodes.{Decodes}
use Rattle.wal_reader.specs.Pages.{pages_in}
use Rattle.written_log_laws.specs.Torn.{NoTornPass}
use Rattle.written_log_laws.specs.Written.{found_entry, found_of}

-- what was found is a front of the order, which holds an entry, and the entry is found at its place
pub record FindsEntry (size : ℕ) (order : List Entry) (e : Entry) (found : List FoundRecord)
    : Type 0 where
  pub count : ℕ
  pub front : found ≡ found_of size (take count order)
  pub holds : Contains (take count order) e
  pub prev : ℕ
  pub there : Contains found (found_entry size prev e)

-- whatever a crash leaves at a moment or a later one, an entry is found in it; the premise is that
-- no torn record passes its CRC in what is left
abbrev pub Survives : ℕ → List Entry → Tape → ℕ → Entry → Type 0
Survives size order t from e =
    (moment : ℕ) (image : DiskImage) → from ≤ moment → LeftAt t moment image
    → NoTornPass size (pages_in size image) order
    → (found : List FoundRecord) (answer : Answer)
    → Decodes size (pages_in size image) size None found answer
    → FindsEntry size order e found
