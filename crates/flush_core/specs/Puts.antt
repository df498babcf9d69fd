-- What putting a page asks for, and what putting and hardening leave.
use Rattle.std.specs.Prelude.{◌≡◌, ℕ, ◌+◌, ◌*◌, ◌/◌, ◌%◌, ◌<◌, ◌≤◌, false, max, not, ◌==◌, List, Option}
use Rattle.byte_position.specs.Geometry.{pages_of}
use Rattle.segment_disk.specs.Tape.{Tape}
use Rattle.flush_core.specs.declared.writer.Writer.{Writer}
use Rattle.flush_core.specs.Left.{PutHistory, SameBelow, with_put}
use Rattle.flush_core.specs.Pages.{PutPages, with_page}
use Rattle.flush_core.specs.Writer.{HasDone, HoldsOnly, IsKept, IsMadeAsWritten, IsWriter, TellsFault, calls_to_harden, calls_to_put, disk_of, is_unsynced, last_made, writer_segment_size, written_of}

-- a page is the one under way, and is whole as far as it was before at least, at most to its end
pub record IsUnderWay (written_before page upto : ℕ) : Type 0 where
  pub number : page ≡ written_before / 8192
  pub rises : written_before ≤ upto
  pub begun : page * 8192 < upto
  pub within : upto ≤ (page + 1) * 8192

-- a page was put: just its calls were made, the moment has risen, so that no two pages that are put
-- have the same one, and the disk reads as the pages that were put, this one among them
pub record HasPutPage {D : Type 0} (tape : D → Option Tape) (moment faults : D → ℕ)
    (old new : Writer D) (page upto : ℕ) (bytes : List ℕ) : Type 0 where
  pub put : (pages : PutPages) → IsWriter tape old pages
      → IsWriter tape new (with_page pages page bytes)
  pub calls : HasDone tape moment faults old new (calls_to_put old page upto bytes)
  pub moment_rises : moment (disk_of old) < moment (disk_of new)
  pub written : written_of new ≡ upto
  pub synced : is_unsynced new ≡ not (upto % writer_segment_size old == 0)
  pub made : last_made new ≡ max (last_made old) (page / pages_of (writer_segment_size old))
  pub as_written : writer_segment_size old ≤ written_of old → IsMadeAsWritten old
      → IsMadeAsWritten new

-- a page could not be put: a front of its calls was made, or none where the disk had failed before,
-- and the log is written no further
pub record HasNotPut {D : Type 0} (tape : D → Option Tape) (moment faults : D → ℕ)
    (old new : Writer D) (told page upto : ℕ) (bytes : List ℕ) : Type 0 where
  pub why : TellsFault tape moment faults old new told (calls_to_put old page upto bytes)
  pub written : written_of new ≡ written_of old
  pub made : last_made new ≡ last_made old

-- what is written was hardened: one sync was made, or no call where nothing waits; each crash from
-- the moment told on leaves what is below the position as it was put, and the disk reads as before
pub record HasHardened {D : Type 0} (tape : D → Option Tape) (moment faults : D → ℕ)
    (old new : Writer D) (told upto : ℕ) : Type 0 where
  pub hardened : (pages : PutPages) → IsWriter tape old pages → IsKept tape new told upto pages
  pub holds : (pages : PutPages) → IsWriter tape old pages → IsWriter tape new pages
  pub calls : HasDone tape moment faults old new (calls_to_harden old)
  pub told_is : told ≡ moment (disk_of new)
  pub synced : is_unsynced new ≡ false

-- ---- however a call ends

-- what was hardened below a position stays, as long as a page that is put has the same words there;
-- and no word comes to the disk that was not put
pub record KeepsBehindPut {D : Type 0} (tape : D → Option Tape) (old new : Writer D) (page : ℕ)
    (bytes : List ℕ) : Type 0 where
  pub kept : (moment position : ℕ) (pages : PutPages) → position ≤ written_of old
      → SameBelow position page bytes (pages page) → IsKept tape old moment position pages
      → IsKept tape new moment position pages
  pub only : (moment : ℕ) (puts : PutHistory) → HoldsOnly tape old moment puts
      → HoldsOnly tape new moment (with_put puts page bytes)

-- the same where no page is put
pub record Keeps {D : Type 0} (tape : D → Option Tape) (old new : Writer D) : Type 0 where
  pub kept : (moment position : ℕ) (pages : PutPages) → IsKept tape old moment position pages
      → IsKept tape new moment position pages
  pub only : (moment : ℕ) (puts : PutHistory) → HoldsOnly tape old moment puts
      → HoldsOnly tape new moment puts

-- written, made and the segment size are as they were
pub record IsAsWritten {D : Type 0} (old new : Writer D) : Type 0 where
  pub written : written_of new ≡ written_of old
  pub made : last_made new ≡ last_made old
  pub size : writer_segment_size new ≡ writer_segment_size old
