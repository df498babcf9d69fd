-- What a reader finds of a log on a disk that a crash left: up to its end the disk holds the log.
use Rattle.std.specs.Prelude.{◌≡◌, ℕ, ◌+◌, ◌*◌, ◌/◌, ◌%◌, ◌^◌, ◌<◌, ◌≤◌, List, [], ◌∷◌, length, take, Option, Some, None, IfSome}
use Rattle.byte_position.specs.Geometry.{IsSegmentSize, pages_of}
use Rattle.byte_position.specs.Position.{end_address_of}
use Rattle.segment_disk.specs.DiskImage.{DiskImage, image_as_read}
use Rattle.segment_disk.specs.Tape.{DiskState, page_of_segment}
use Rattle.wal_spelling.specs.Spelling.{word_at}
use Rattle.wal_page.specs.Order.{Entry, IsChained, end_position, prev_of}
use Rattle.wal_page.specs.Log.{log_word}
use Rattle.flush_core.specs.Lawful.{IsLawful}
use Rattle.flush_core.specs.SettledLog.{AreOnly, ReadsAsLog}
use Rattle.wal_reader.specs.declared.found.Answer.{Answer}
use Rattle.wal_reader.specs.declared.found.FoundRecord.{FoundRecord}
use Rattle.wal_reader.specs.Pages.{pages_in}
use Rattle.wal_reader.specs.Decodes.{Decodes}
use Rattle.written_log_laws.specs.SettledLog.{MayHoldLog}
use Rattle.written_log_laws.specs.Torn.{NoTornPass}
use Rattle.written_log_laws.specs.Written.{found_of}

-- where records end that were found: with the last one; `end` where there is none, which is the
-- log's start
abbrev pub end_behind : ℕ → List FoundRecord → ℕ
end_behind end [] = end
end_behind end (f ∷ found) = end_behind f.head.end.0 found

-- where the last of them starts; `start` where there is none, which is 0
abbrev pub last_start_behind : ℕ → List FoundRecord → ℕ
last_start_behind start [] = start
last_start_behind start (f ∷ found) = last_start_behind f.head.start.0 found

-- ---- images

-- each segment that is there has all pages of this size
abbrev pub HasAllPages : ℕ → DiskImage → Type 0
HasAllPages size image = (segment : ℕ) → IfSome (image segment) (λ i. i.pages ≡ pages_of size)

-- records are those of an order's first entries, and up to their end an image has all that the
-- order has
pub record HoldsFirstEntries (size sysid : ℕ) (image : DiskImage) (es : List Entry)
    (found : List FoundRecord) : Type 0 where
  pub count : ℕ
  pub within : count ≤ length es
  pub found_is : found ≡ found_of size (take count es)
  pub end_is : end_behind size found ≡ end_address_of size (end_position size (take count es))
  pub lawful : IsLawful size sysid image es (end_behind size found)

-- an image that holds nothing but words of an order's log, in which no torn record passes its CRC,
-- holds what it decodes to
abbrev pub FoundLogsStandInImages : Type 0
FoundLogsStandInImages =
    (size sysid : ℕ) (image : DiskImage) (es : List Entry) → IsSegmentSize size → 0 < sysid
    → sysid < 2 ^ 64 → IsChained size es → end_address_of size (end_position size es) ≤ 2 ^ 60
    → HasAllPages size image → IsLawful size sysid image es 0
    → NoTornPass size (pages_in size image) es → (found : List FoundRecord) (answer : Answer)
    → Decodes size (pages_in size image) size None found answer
    → HoldsFirstEntries size sysid image es found

-- ---- disks

-- a log was read on a disk that may hold words of an order and nothing else: these records were
-- found, and no torn one passes its CRC there
pub record ReadsUntorn (size sysid count : ℕ) (es : List Entry) (state : DiskState)
    (found : List FoundRecord) : Type 0 where
  pub may : MayHoldLog size sysid count es state
  pub none_torn : NoTornPass size (pages_in size (image_as_read state)) es
  pub answer : Answer
  pub decodes : Decodes size (pages_in size (image_as_read state)) size None found answer

-- the page in which a log ends, as it is read: its words below the end are the log's, and where it
-- is not there no word of it lies below the end
abbrev pub IsEndPage : ℕ → ℕ → List Entry → ℕ → Option (List ℕ) → Type 0
IsEndPage size sysid es end None = end % 8192 ≡ 0
IsEndPage size sysid es end (Some page) =
    (j : ℕ) → end / 8192 * 8192 + 8 * j < end
    → word_at page j ≡ log_word size sysid es (end / 8192 * 8192 + 8 * j)

-- what was found are an order's first entries, and up to their end the disk reads as their log,
-- which the order's begins with; the end lies in the segments that are there, if there are no
-- others
pub record ReadsFirstEntries (size sysid count : ℕ) (es : List Entry) (state : DiskState)
    (found : List FoundRecord) : Type 0 where
  pub among : ℕ
  pub within : among ≤ length es
  pub found_is : found ≡ found_of size (take among es)
  pub end_is : end_behind size found ≡ end_address_of size (end_position size (take among es))
  pub start_is : last_start_behind 0 found ≡ prev_of size 0 (take among es)
  pub reads : ReadsAsLog size sysid count es (end_behind size found) state
  pub own : ReadsAsLog size sysid count (take among es) (end_behind size found) state
  pub end_page : IsEndPage size sysid (take among es) (end_behind size found)
      (page_of_segment (state (end_behind size found / size))
      (end_behind size found % size / 8192))
  pub reached : AreOnly count state → end_behind size found ≤ count * size + size

abbrev pub FoundLogsReadAsLog : Type 0
FoundLogsReadAsLog =
    (size sysid count : ℕ) (es : List Entry) (state : DiskState) (found : List FoundRecord)
    → ReadsUntorn size sysid count es state found
    → ReadsFirstEntries size sysid count es state found
