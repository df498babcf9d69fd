-- What it means that the page in which a record is to start is opened.
use Rattle.std.specs.Prelude.{◌≡◌, ◌+◌, ◌/◌, ◌≤◌, Option, Some, None, Result, IfOk}
use Rattle.byte_position.specs.Position.{address_of}
use Rattle.segment_disk.specs.Tape.{Tape}
use Rattle.wal_reader.specs.declared.page_cache.PageCache.{PageCache}
use Rattle.wal_reader.specs.declared.page_cursor.PageCursor.{PageCursor}
use Rattle.wal_reader.specs.declared.read_failure.ReadFailure.{ReadFailure}
use Rattle.wal_reader.specs.declared.record_place.RecordPlace.{RecordPlace}
use Rattle.wal_reader.specs.Decodes.{opening_fault}
use Rattle.wal_reader.specs.PageCursor.{HasGathered, IsOn, Sees}
use Rattle.wal_reader.specs.Pages.{Pages}
use Rattle.wal_reader.specs.ReadFailures.{Settles}

-- at Ok the page is held that has the record's first byte, and the cursor stands at that byte; all
-- checks before the record's first word hold then, else it tells the first that fails; a page that
-- is held is not read again
pub record OpensPage {D : Type 0} (tape : D → Option Tape) (disk disk_now : D)
    (cache cache_now : PageCache) (at : RecordPlace) (result : Result PageCursor ReadFailure)
    : Type 0 where
  pub cursor : IfOk result (λ cursor. IsOn cache_now cursor
      × HasGathered cache.geometry at.position 0 cursor)
  pub place : IfOk result (λ cursor. (cursor.page ≡ address_of cache.geometry at.position / 8192)
      × (cursor.offset + 8 ≤ 8192))
  pub passes : IfOk result (λ _. opening_fault cache.geometry at (Some cache_now.bytes.value)
      ≡ None)
  pub unread : cache.number ≡ Some (address_of cache.geometry at.position / 8192)
      → (disk_now ≡ disk) × (cache_now ≡ cache)
  pub checks : (pages : Pages) → Sees (tape disk) cache pages
      → Settles (opening_fault cache.geometry at (pages (address_of cache.geometry at.position
      / 8192))) result
