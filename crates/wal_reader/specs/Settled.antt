-- There is one thing that a log's pages decode to, and a reader's steps tell it.
use Rattle.std.specs.Prelude.{◌≡◌, ℕ, ◌^◌, ◌≤◌, List, [], ◌∷◌, Option, None, Ok}
use Rattle.byte_position.specs.Geometry.{IsSegmentSize}
use Rattle.segment_disk.specs.DiskImage.{DiskImage}
use Rattle.wal_reader.specs.declared.found.FoundRecord.{FoundRecord}
use Rattle.wal_reader.specs.declared.found.Answer.{Answer}
use Rattle.wal_reader.specs.declared.standing.Standing.TheVariants.{NotBegun}
use Rattle.wal_reader.specs.Decodes.{Decodes}
use Rattle.wal_reader.specs.LogReader.{ReaderState, IsNext}
use Rattle.wal_reader.specs.Pages.{Pages, pages_in}
use Rattle.wal_reader.specs.Standings.{given_as, told}

-- no page ends above address 2 ^ 60
abbrev pub IsBounded : Pages → Type 0
IsBounded pages = (page : ℕ) → 2 ^ 47 ≤ page → pages page ≡ None

-- pages decode to something, and to that alone
abbrev pub IsSettled : ℕ → Pages → ℕ → Option ℕ → Type 0
IsSettled size pages start end =
    (found : List FoundRecord) × (answer : Answer) × Decodes size pages start end found answer
    × ((others : List FoundRecord) (other : Answer) → Decodes size pages start end others other
    → (others ≡ found) × (other ≡ answer))

-- the pages of every image are settled, from whatever start and up to whatever end
abbrev pub DecodingIsSettled : Type 0
DecodingIsSettled =
    (size : ℕ) (image : DiskImage) (start : ℕ) (end : Option ℕ) → IsSegmentSize size
    → IsSettled size (pages_in size image) start end

-- a reader's steps, one behind another: these records, and then this answer
pub data Tells (pages : Pages) : ReaderState → List FoundRecord → Answer → Type 0 where
  stop : {old : ReaderState} {answer : Answer} (new : ReaderState)
      → IsNext pages old new (told answer) → Tells pages old [] answer
  step : {old : ReaderState} {found : FoundRecord} {others : List FoundRecord} {answer : Answer}
      (new : ReaderState) → IsNext pages old new (Ok (given_as found))
      → Tells pages new others answer → Tells pages old (found ∷ others) answer

-- what the steps of a new reader tell is what the pages decode to
abbrev pub StepsTellDecoding : Type 0
StepsTellDecoding =
    (size : ℕ) (pages : Pages) (start : ℕ) (end : Option ℕ) (found : List FoundRecord)
    (answer : Answer) → Tells pages
    (record { size = size; start = start; end = end; standing = NotBegun }) found answer
    → Decodes size pages start end found answer
