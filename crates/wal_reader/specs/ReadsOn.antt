-- What each read of a log's pages keeps.
use Rattle.std.specs.Prelude.{◌≡◌, ℕ, Option}
use Rattle.segment_disk.specs.Tape.{Tape, IsUncalled}
use Rattle.wal_reader.specs.declared.page_cache.PageCache.{PageCache}
use Rattle.wal_reader.specs.PageCursor.{SeesStill}

-- reading went on in the same log, however it ended: no counted call was made of the disk, and the
-- page that is held is one of the same pages
pub record ReadsOn {D : Type 0} (tape : D → Option Tape) (moment : D → ℕ) (disk disk_now : D)
    (cache cache_now : PageCache) : Type 0 where
  pub geometry : cache_now.geometry ≡ cache.geometry
  pub sees : SeesStill (tape disk) (tape disk_now) cache cache_now
  pub uncalled : IsUncalled tape moment disk disk_now
