-- The pages of a log as they were put, by their numbers counted from the log's address 0, and how
-- images and disks hold them. Everywhere `size` is the size of a segment in bytes.
use Rattle.std.specs.Prelude.{◌≡◌, ◌≢◌, ℕ, ◌+◌, ◌*◌, ◌/◌, ◌<◌, ◌≤◌, ◌⊎◌, Bool, false, List, [], length, Option, Some, None, IfSome, ◌==◌, if◌then◌else◌}
use Rattle.byte_position.specs.Geometry.{pages_of}
use Rattle.segment_disk.specs.Tape.{Segment, DiskState, Tape, state_now, zero_page}
use Rattle.segment_disk.specs.DiskImage.{DiskImage, ImageSegment, image_as_read}

-- the bytes last put of each page, zeros where none was put
abbrev pub PutPages : Type 0
PutPages = ℕ → List ℕ

abbrev pub no_pages : PutPages
no_pages page = zero_page

-- with these bytes put
abbrev pub with_page : PutPages → ℕ → List ℕ → PutPages
with_page pages number bytes page = if page == number then bytes else pages page

-- a segment of an image is there with all its pages, and these are as they were put
abbrev pub HoldsSegment : ℕ → PutPages → ℕ → Option ImageSegment → Type 0
HoldsSegment size pages segment None = ⊥
HoldsSegment size pages segment (Some i) =
    (i.pages ≡ pages_of size)
    × ((page : ℕ) → page < pages_of size → i.page page ≡ pages (segment * pages_of size + page))

-- an image holds just the pages that were put: the segments from 1 to a last one, and no other
pub record HoldsPages (size last : ℕ) (image : DiskImage) (pages : PutPages) : Type 0 where
  pub there : (segment : ℕ) → 1 ≤ segment → segment ≤ last
      → HoldsSegment size pages segment (image segment)
  pub others : (segment : ℕ) → (segment ≡ 0) ⊎ (last < segment) → image segment ≡ None

-- the page writes of a segment since its last sync
abbrev pub unsynced_writes : Option Segment → List (ℕ × List ℕ)
unsynced_writes None = []
unsynced_writes (Some s) = s.writes

-- what a disk holds where all below a position is written and the segments up to a last one are
-- made: as it is read just the pages that were put; only the segment of that position may have
-- writes that wait for a sync, if any has
pub record HoldsPut (size written made : ℕ) (unsynced : Bool) (state : DiskState)
    (pages : PutPages) : Type 0 where
  pub read : HoldsPages size made (image_as_read state) pages
  pub synced : (segment : ℕ) → (segment ≢ written / size) ⊎ (unsynced ≡ false)
      → unsynced_writes (state segment) ≡ []

-- pages that were put up to a position: each is whole, and behind the position all are zeros
pub record ArePutUpto (written : ℕ) (pages : PutPages) : Type 0 where
  pub whole : (page : ℕ) → length (pages page) ≡ 8192
  pub behind : (page : ℕ) → written ≤ page * 8192 → pages page ≡ zero_page

-- the disk holds no segment, where it tells what it holds
abbrev pub HoldsNothing : Option Tape → Type 0
HoldsNothing tape = IfSome tape (λ t. (segment : ℕ) → state_now t segment ≡ None)
