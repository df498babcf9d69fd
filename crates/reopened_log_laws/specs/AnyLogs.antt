-- A log that anybody may have left on a disk that tells what it holds: once it is settled, whatever
-- a crash leaves of it has below its end just the words that were read, and zeros behind.
use Rattle.std.specs.Prelude.{◌≡◌, ℕ, ◌<◌, List, IfSome, Some}
use Rattle.byte_position.specs.Geometry.{IsSegmentSize, pages_of}
use Rattle.segment_disk.specs.Tape.{DiskState, Tape, page_as_read, state_now}
use Rattle.flush_core.specs.Settled.{HasSettled}
use Rattle.flush_core.specs.SettledLog.{AreOnly}
use Rattle.wal_reader.specs.Pages.{IsPage}
use Rattle.wal_reader.specs.declared.found.FoundRecord.{FoundRecord}
use Rattle.found_log.specs.Found.{IsDiskLog}
use Rattle.machine_state.specs.Suited.{IsSuited}
use Rattle.machine_state.specs.Words.{Opening, found_end}

-- each segment that is there has all pages of this size, and these are pages of bytes
abbrev pub HavePagesOfBytes : ℕ → DiskState → Type 0
HavePagesOfBytes size state = (segment : ℕ) → IfSome (state segment)
    (λ s. (s.pages ≡ pages_of size)
    × ((page : ℕ) → page < s.pages → IsPage (page_as_read s page)))

-- so a disk holds them, and no segment but those from 1 to `made`
pub record HoldsSegments (size made : ℕ) (t : Tape) : Type 0 where
  pub pages : HavePagesOfBytes size (state_now t)
  pub only : AreOnly made (state_now t)

-- on it a log may go on that was found there, and settled
abbrev pub FoundLogsAreSuited : Type 0
FoundLogsAreSuited =
    (opening : Opening) (cap since : ℕ) (records : List FoundRecord) (t began : Tape)
    → IsSegmentSize opening.setup.seg_size
    → IsDiskLog opening.setup.seg_size cap records opening.place opening.made t
    → HoldsSegments opening.setup.seg_size opening.made t
    → HasSettled opening.setup.seg_size (found_end opening) opening.made (Some t) (Some began)
    since opening.moment
    → IsSuited opening (state_now began)
