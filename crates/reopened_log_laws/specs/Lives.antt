-- How a life of a log on a disk ends, and the records that are kept over its lives. `size` is that
-- of a segment in bytes, `order` the log.
use Rattle.std.specs.Prelude.{◌≡◌, ℕ, All, Contains, List, take}
use Rattle.segment_disk.specs.DiskImage.{image_as_read}
use Rattle.segment_disk.specs.Tape.{Tape, state_now}
use Rattle.wal_page.specs.Order.{Entry}
use Rattle.wal_reader.specs.declared.found.FoundRecord.{FoundRecord}
use Rattle.wal_reader.specs.Pages.{pages_in}
use Rattle.written_log_laws.specs.Torn.{NoTornPass}
use Rattle.written_log_laws.specs.Written.{found_of}
use Rattle.reopened_log_laws.specs.Sure.{IsLeftAt}

-- a life ends at a moment: its process stops, between two calls of the disk (so it does where the
-- call comes back) or within a write, or its machine crashes; and no torn record of the log passes
-- its CRC, as the disk is read then
pub record LifeEndsAt (size : ℕ) (order : List Entry) (now : Tape) (moment : ℕ) (next : Tape)
    : Type 0 where
  pub left : IsLeftAt now moment next
  pub no_torn_pass : NoTornPass size (pages_in size (image_as_read (state_now next))) order

-- records are a front of the log, each whole, and all of these are among them
pub record IsFrontWith (size : ℕ) (order : List Entry) (hard records : List FoundRecord)
    : Type 0 where
  pub count : ℕ
  pub front : records ≡ found_of size (take count order)
  pub has : All (Contains records) hard
