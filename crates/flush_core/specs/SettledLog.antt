-- A log that was found on a disk, and settled there.
use Rattle.std.specs.Prelude.{◌≡◌, ℕ, ◌+◌, ◌*◌, ◌/◌, ◌<◌, ◌≤◌, List, None}
use Rattle.byte_position.specs.Geometry.{IsSegmentSize, pages_of}
use Rattle.byte_position.specs.Position.{end_address_of}
use Rattle.segment_disk.specs.Assured.{StateAssures}
use Rattle.segment_disk.specs.DiskImage.{DiskImage, LeftAt}
use Rattle.segment_disk.specs.Tape.{DiskState, Tape, state_now}
use Rattle.wal_page.specs.Order.{Entry, IsChained, end_position}
use Rattle.wal_page.specs.Log.{IsLawfulWord, log_word_bytes}
use Rattle.flush_core.specs.Lawful.{IsLawful}
use Rattle.flush_core.specs.Settled.{IsAmong, IsAsRead, StaysSettled, KeepsRead, KeepsOld}

-- a word of the disk, by its page's number in the log and its own in the page, is the log's
abbrev pub IsLogWord : ℕ → ℕ → List Entry → ℕ → ℕ → List ℕ → Type 0
IsLogWord size sysid es page word bytes =
    bytes ≡ log_word_bytes size sysid es (page * 8192 + 8 * word)

-- .. or 0
abbrev pub IsZeroOrLogWord : ℕ → ℕ → List Entry → ℕ → ℕ → List ℕ → Type 0
IsZeroOrLogWord size sysid es page word bytes =
    IsLawfulWord size sysid es (page * 8192 + 8 * word) bytes

-- in the segments from 1 to `count` each word below `upto` reads as the log's
abbrev pub ReadsAsLog : ℕ → ℕ → ℕ → List Entry → ℕ → DiskState → Type 0
ReadsAsLog size sysid count es upto state = (page word : ℕ) (bytes : List ℕ)
    → IsAmong count (page / pages_of size) → word < 1024 → page * 8192 + 8 * word < upto
    → IsAsRead size state page word bytes → IsLogWord size sysid es page word bytes

-- no other segments were there
abbrev pub AreOnly : ℕ → DiskState → Type 0
AreOnly count state = (segment : ℕ) → (IsAmong count segment → ⊥) → state segment ≡ None

-- once a log was settled that reads as that of an order up to the order's end, whatever a crash
-- leaves is that log and nothing else: so the log may be gone on with
abbrev pub SettledLogsAreWhole : Type 0
SettledLogsAreWhole =
    (size sysid count since moment : ℕ) (es : List Entry) (before : DiskState) (tape : Tape)
    → IsSegmentSize size → IsChained size es → AreOnly count before
    → ReadsAsLog size sysid count es (end_address_of size (end_position size es)) before
    → KeepsOld size before count (end_address_of size (end_position size es)) since tape
    → StaysSettled size before count (end_address_of size (end_position size es)) moment tape
    → StateAssures size (IsAmong count) (IsLogWord size sysid es) (state_now tape)

-- each image that a crash leaves while a log is settled is lawful for an order for which those were
-- that it might have left before ..
abbrev pub SettlingKeepsLawful : Type 0
SettlingKeepsLawful =
    (size sysid count end moment m : ℕ) (es : List Entry) (before : DiskState) (tape : Tape)
    (image : DiskImage) → IsSegmentSize size → IsChained size es
    → StateAssures size (IsAmong count) (IsZeroOrLogWord size sysid es) before
    → KeepsOld size before count end moment tape → moment ≤ m → LeftAt tape m image
    → IsLawful size sysid image es 0

-- .. and from the end of the first syncs on it is so up to where the log reads as the order's
abbrev pub SyncedLogsAreLawful : Type 0
SyncedLogsAreLawful =
    (size sysid count end upto since moment m : ℕ) (es : List Entry) (before : DiskState)
    (tape : Tape) (image : DiskImage) → IsSegmentSize size → IsChained size es
    → StateAssures size (IsAmong count) (IsZeroOrLogWord size sysid es) before → upto ≤ end
    → upto ≤ count * size + size → ReadsAsLog size sysid count es upto before
    → KeepsOld size before count end since tape → KeepsRead size before count end moment tape
    → since ≤ m → moment ≤ m → LeftAt tape m image → IsLawful size sysid image es upto
