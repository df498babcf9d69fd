-- Where a reader stands in the page that it holds, while it gathers the bytes of a record.
use Rattle.std.specs.Prelude.{◌≡◌, ℕ, ◌+◌, ◌-◌, ◌*◌, ◌^◌, ◌<◌, ◌≤◌, IfOk, List, Option, Some, None, Result}
use Rattle.byte_position.specs.Geometry.{IsSegmentSize}
use Rattle.byte_position.specs.Position.{position_of}
use Rattle.segment_disk.specs.Tape.{Tape}
use Rattle.wal_page.specs.Page.{header_size, first_fault, timeline_of}
use Rattle.wal_reader.specs.declared.record_place.RecordPlace.{RecordPlace}
use Rattle.wal_reader.specs.declared.page_cursor.PageCursor.{PageCursor}
use Rattle.wal_reader.specs.declared.page_cache.PageCache.{PageCache}
use Rattle.wal_reader.specs.Cache.{Caches, log_of}
use Rattle.wal_reader.specs.Pages.{Pages, bytes_from}
use Rattle.wal_reader.specs.Decodes.{page_answers, page_of_byte, rows_of_pages}

-- pages are those of the log that a disk tells
abbrev pub IsLogOf : Option Tape → ℕ → Pages → Type 0
IsLogOf None size pages = ⊥
IsLogOf (Some tape) size pages = pages ≡ log_of tape size

-- pages are those of the log that a disk tells, and the page that is held is one of them
pub record Sees (tape : Option Tape) (cache : PageCache) (pages : Pages) : Type 0 where
  pub log : IsLogOf tape cache.geometry pages
  pub held : Caches cache pages

-- after a step the page that is held is one of the same pages
abbrev pub SeesStill : Option Tape → Option Tape → PageCache → PageCache → Type 0
SeesStill old_tape new_tape old new = (pages : Pages) → Sees old_tape old pages
    → Sees new_tape new pages

-- the cursor's page is held, and has its timeline
abbrev pub IsOn : PageCache → PageCursor → Type 0
IsOn cache cursor =
    (cache.number ≡ Some cursor.page) × (timeline_of cache.bytes.value ≡ cursor.timeline)

-- the page that is held passes its own checks as the one of this number, beside no page before it
pub record HasPassed (cache : PageCache) (page : ℕ) : Type 0 where
  pub passes : first_fault (page_answers cache.geometry page cache.bytes.value
      (timeline_of cache.bytes.value)) ≡ None

-- nothing was read: disk and page are the same, and the cursor is still on its page
abbrev pub StaysOnPage : {D E : Type 0} → D → D → PageCache → PageCache → PageCursor
    → Result PageCursor E → Type 0
StaysOnPage disk disk_now cache cache_now cursor result =
    (disk_now ≡ disk) × (cache_now ≡ cache) × IfOk result (λ now. now.page ≡ cursor.page)

-- the byte at a byte position stands at the cursor, or at a page's end it is the next page's first
pub record StandsIn (size position : ℕ) (cursor : PageCursor) : Type 0 where
  pub valid : IsSegmentSize size
  pub low : header_size size cursor.page ≤ cursor.offset
  pub high : cursor.offset ≤ 8192
  pub at : position + (8192 - cursor.offset) ≡ position_of size ((cursor.page + 1) * 8192)
  pub reach : cursor.page < 2 ^ 47

-- n bytes of the record at a byte position were gathered, the last of them on the cursor's page
pub record HasGathered (size position n : ℕ) (cursor : PageCursor) : Type 0 where
  pub stands : StandsIn size (position + n) cursor
  pub last : 0 < n → cursor.page ≡ page_of_byte size position n

-- no check fails of the pages behind one up to another
pub record Crosses (size : ℕ) (pages : Pages) (place : RecordPlace) (total from upto : ℕ)
    : Type 0 where
  pub rises : from ≤ upto
  pub passes : first_fault (rows_of_pages size pages place total from upto) ≡ None

-- the room holds the first bytes of a record, and no check failed of the pages behind one up to
-- that of the last of them
pub record HoldsPassed (size : ℕ) (pages : Pages) (place : RecordPlace) (total from : ℕ)
    (room : List ℕ) : Type 0 where
  pub count : ℕ
  pub page : ℕ
  pub bytes : room ≡ bytes_from size pages count place.position
  pub last : 0 < count → page ≡ page_of_byte size place.position count
  pub crossed : Crosses size pages place total from page
