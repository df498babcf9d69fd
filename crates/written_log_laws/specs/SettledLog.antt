-- What images decode to that a crash leaves while a log is settled that was found, and behind it.
use Rattle.std.specs.Prelude.{ℕ, ◌+◌, ◌*◌, ◌^◌, ◌<◌, ◌≤◌, List, None}
use Rattle.byte_position.specs.Geometry.{IsSegmentSize}
use Rattle.byte_position.specs.Position.{end_address_of}
use Rattle.segment_disk.specs.Assured.{StateAssures}
use Rattle.segment_disk.specs.DiskImage.{DiskImage, LeftAt}
use Rattle.segment_disk.specs.Tape.{DiskState, Tape}
use Rattle.wal_page.specs.Order.{Entry, IsChained, end_position}
use Rattle.flush_core.specs.Settled.{IsAmong, KeepsRead, KeepsOld}
use Rattle.flush_core.specs.SettledLog.{IsZeroOrLogWord, ReadsAsLog}
use Rattle.wal_reader.specs.declared.found.Answer.{Answer}
use Rattle.wal_reader.specs.declared.found.FoundRecord.{FoundRecord}
use Rattle.wal_reader.specs.Pages.{pages_in}
use Rattle.wal_reader.specs.Decodes.{Decodes}
use Rattle.written_log_laws.specs.LawfulLog.{IsFrontUpto}
use Rattle.written_log_laws.specs.Torn.{NoTornPass}

-- an order of which a disk may hold words, and nothing else
pub record MayHoldLog (size sysid count : ℕ) (es : List Entry) (state : DiskState) : Type 0 where
  pub valid : IsSegmentSize size
  pub known : 0 < sysid
  pub narrow : sysid < 2 ^ 64
  pub chained : IsChained size es
  pub bounded : end_address_of size (end_position size es) ≤ 2 ^ 60
  pub lawful : StateAssures size (IsAmong count) (IsZeroOrLogWord size sysid es) state

-- an image that a crash leaves meanwhile, in which no torn record passes its CRC, decodes to a
-- front of the order ..
abbrev pub SettlingLogsDecodeToFronts : Type 0
SettlingLogsDecodeToFronts =
    (size sysid count end moment m : ℕ) (es : List Entry) (before : DiskState) (tape : Tape)
    (image : DiskImage) → MayHoldLog size sysid count es before
    → KeepsOld size before count end moment tape → moment ≤ m → LeftAt tape m image
    → NoTornPass size (pages_in size image) es → (found : List FoundRecord) (answer : Answer)
    → Decodes size (pages_in size image) size None found answer → IsFrontUpto size es 0 found

-- .. and from the end of the first syncs on to one that has each entry up to where the log was read
-- as the order's
abbrev pub SyncedLogsDecodeToFronts : Type 0
SyncedLogsDecodeToFronts =
    (size sysid count end upto since moment m : ℕ) (es : List Entry) (before : DiskState)
    (tape : Tape) (image : DiskImage) → MayHoldLog size sysid count es before → upto ≤ end
    → upto ≤ count * size + size → ReadsAsLog size sysid count es upto before
    → KeepsOld size before count end since tape → KeepsRead size before count end moment tape
    → since ≤ m → moment ≤ m → LeftAt tape m image → NoTornPass size (pages_in size image) es
    → (found : List FoundRecord) (answer : Answer)
    → Decodes size (pages_in size image) size None found answer → IsFrontUpto size es upto found
