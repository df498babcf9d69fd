-- Runs of a reader that stop early: what they gave is a front of what the log decodes to.
use Rattle.std.specs.Prelude.{◌≡◌, ℕ, List, [], ◌∷◌, ◌++◌, Option, Ok}
use Rattle.byte_position.specs.Geometry.{IsSegmentSize}
use Rattle.segment_disk.specs.DiskImage.{DiskImage}
use Rattle.wal_reader.specs.declared.found.FoundRecord.{FoundRecord}
use Rattle.wal_reader.specs.declared.found.Answer.{Answer}
use Rattle.wal_reader.specs.declared.standing.Standing.TheVariants.{NotBegun}
use Rattle.wal_reader.specs.Decodes.{Decodes}
use Rattle.wal_reader.specs.LogReader.{ReaderState, GivesRecords, IsNext, LeavesReader}
use Rattle.wal_reader.specs.Pages.{Pages, pages_in}
use Rattle.wal_reader.specs.Standings.{given_as}

-- a reader's steps, one behind another: these records, and where the reader stands then
pub data Gave (pages : Pages) : ReaderState → List FoundRecord → ReaderState → Type 0 where
  nothing : {state : ReaderState} → Gave pages state [] state
  record_more : {old last : ReaderState} {found : FoundRecord} {others : List FoundRecord}
      (new : ReaderState)
      → IsNext pages old new (Ok (given_as found)) → LeavesReader old new (Ok (given_as found))
      → Gave pages new others last → Gave pages old (found ∷ others) last

-- behind what a run gave stands whatever the reader gives from where the run ends
abbrev pub RunsCompose : Type 0
RunsCompose =
    (pages : Pages) (old last : ReaderState) (found others : List FoundRecord) (answer : Answer)
    → Gave pages old found last → GivesRecords pages last others answer
    → GivesRecords pages old (found ++ others) answer

-- what a run of a new reader gave is a front of the one thing that an image's pages decode to, and
-- from where it ends the rest of it comes
abbrev pub RunsGiveFronts : Type 0
RunsGiveFronts =
    (size : ℕ) (image : DiskImage) (start : ℕ) (end : Option ℕ) (found : List FoundRecord)
    (last : ReaderState)
    → IsSegmentSize size
    → Gave (pages_in size image)
    (record { size = size; start = start; end = end; standing = NotBegun }) found last
    → (all : List FoundRecord) (answer : Answer)
    → Decodes size (pages_in size image) start end all answer
    → (others : List FoundRecord) × (all ≡ found ++ others)
    × GivesRecords (pages_in size image) last others answer
