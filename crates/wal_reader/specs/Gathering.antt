-- Where the gathering of a record's bytes stands, and what it takes of a log's pages.
use Rattle.std.specs.Prelude.{◌≡◌, ℕ, ◌/◌, ◌≤◌, List, OnOk, Result}
use Rattle.byte_position.specs.Position.{address_of}
use Rattle.wal_reader.specs.declared.gathering.Gathering.{Gathering}
use Rattle.wal_reader.specs.declared.page_cache.PageCache.{PageCache}
use Rattle.wal_reader.specs.declared.page_cursor.PageCursor.{PageCursor}
use Rattle.wal_reader.specs.declared.read_failure.ReadFailure.{ReadFailure}
use Rattle.wal_reader.specs.PageCursor.{HasGathered, HoldsPassed, IsOn}
use Rattle.wal_reader.specs.Pages.{Pages, bytes_from}
use Rattle.wal_reader.specs.PagesPassed.{PassesPages}
use Rattle.wal_reader.specs.RecordPlace.{IsReachable}

-- n bytes were gathered of a record at a place that reading comes to, and the cursor stands behind
-- them in the page that is held
pub record IsGathering (cache : PageCache) (gathering : Gathering) (n : ℕ) : Type 0 where
  pub reachable : IsReachable gathering.extent.at
  pub on : IsOn cache gathering.cursor
  pub gathered : HasGathered cache.geometry gathering.extent.at.position n gathering.cursor

-- the cursor stands at a record's first byte, and the record claims a header at least
pub record IsOpened (cache : PageCache) (gathering : Gathering) : Type 0 where
  pub none : IsGathering cache gathering 0
  pub large : 24 ≤ gathering.extent.total
  pub page :
      gathering.cursor.page ≡ address_of cache.geometry gathering.extent.at.position / 8192

-- a room that had first bytes of a record has more of them, of pages that passed; a check that
-- fails of the pages between is told, and the first of them
pub record Gathers (size : ℕ) (pages : Pages) (gathering : Gathering) (had upto : ℕ)
    (room room_now : List ℕ) (result : Result PageCursor ReadFailure) : Type 0 where
  pub bytes : room ≡ bytes_from size pages had gathering.extent.at.position
      → OnOk result (room_now ≡ bytes_from size pages upto gathering.extent.at.position)
  pub passed : room ≡ bytes_from size pages had gathering.extent.at.position
      → HoldsPassed size pages gathering.extent.at gathering.extent.total gathering.cursor.page
      room_now
  pub checks : PassesPages size pages gathering.extent.at gathering.extent.total
      gathering.cursor.page upto result
