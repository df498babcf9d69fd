-- What a sending of the disk's log puts, what it calls, and how it ends.
use Rattle.std.specs.Prelude.{◌≡◌, ℕ, ◌*◌, ◌%◌, ◌^◌, ◌<◌, ◌⊎◌, max, List, length, take, Option, None, IfSome, Result, Ok, Err}
use Rattle.segment_disk.specs.Cause.{RoseByOne}
use Rattle.segment_disk.specs.Stream.{with_behind}
use Rattle.segment_disk.specs.Tape.{IsNotMade, Tape, state_now}
use Rattle.wal_types.specs.declared.lsn.Lsn.{Lsn}
use Rattle.wal_reader.specs.Cache.{log_of}
use Rattle.wal_reader.specs.Decodes.{Decodes}
use Rattle.wal_reader.specs.declared.found.Answer.TheVariants as answers
use Rattle.wal_reader.specs.declared.found.FoundRecord.{FoundRecord}
use Rattle.wal_reader.specs.declared.found.Stopped.{Stopped as LogStop}
use Rattle.wal_reader.specs.declared.standing.ReadErr.{ReadErr}
use Rattle.wal_reader.specs.declared.standing.ReadErr.TheVariants as reading
use Rattle.wal_reader.specs.Standings.{HasReadCause}
use Rattle.written_log_laws.specs.FoundLog.{end_behind}
use Rattle.wal_stream.specs.declared.fault.SendErr.{SendErr}
use Rattle.wal_stream.specs.declared.fault.SendErr.TheVariants.{Read, Sink}
use Rattle.wal_stream.specs.SentFrames.{frames_between, page_read}
use Rattle.wal_stream.specs.Synced.{HasNotSynced, HasSynced}

-- ---- the list

-- the log comes to a clean end: its last record ends at this address, or the log starts there
pub record EndsAt (size end : ℕ) (t : Tape) : Type 0 where
  pub found : List FoundRecord
  pub at : Lsn
  pub decodes : Decodes size (log_of t size) size None found (answers.End at)
  pub end_is : end ≡ end_behind size found

-- it comes to no clean end
pub record StopsBy (size : ℕ) (stop : LogStop) (t : Tape) : Type 0 where
  pub found : List FoundRecord
  pub decodes : Decodes size (log_of t size) size None found (answers.Stopped stop)

-- what reading it says
abbrev pub IsListRead : ℕ → Result Lsn ReadErr → Tape → Type 0
IsListRead size (Ok end) t = EndsAt size end.0 t
IsListRead size (Err (reading.Stopped stop)) t = StopsBy size stop t
IsListRead size (Err reading.Memory) t = Unit {0}
IsListRead size (Err (reading.Disk faults)) t = Unit {0}

-- an address at which a log may end
abbrev pub IsWordEnd : ℕ → Type 0
IsWordEnd end = (end % 8 ≡ 0) × (end < 2 ^ 63)

-- ---- the frames

-- these are the frames of the log from an address on, up to its end; one below its start counts as
-- the start
pub record AreFramesOf (size from : ℕ) (frames : List ℕ) (t : Tape) : Type 0 where
  pub end : ℕ
  pub ends : EndsAt size end t
  pub frames_are : frames
      ≡ frames_between size (page_read size (state_now t)) (max from size) end

-- a sink took all frames, so many; which they are is said where the disk tells what it holds
pub record SendsAll (size from : ℕ) (tape : Option Tape) (old new : Option (List ℕ)) (count : ℕ)
    : Type 0 where
  pub frames : List ℕ
  pub are : IfSome tape (AreFramesOf size from frames)
  pub long : length frames ≡ 8224 * count
  pub put : new ≡ with_behind old frames

-- a sink took a front of them
pub record SendsFront (size from : ℕ) (tape : Option Tape) (old new : Option (List ℕ))
    : Type 0 where
  pub frames : List ℕ
  pub are : IfSome tape (AreFramesOf size from frames)
  pub count : ℕ
  pub put : new ≡ with_behind old (take count frames)

-- ---- how it ends

-- what a sink took and a disk was called, by how a sending ended: nothing is put before all is
-- synced
abbrev pub IsSending : ℕ → ℕ → Option Tape → Option Tape → ℕ → ℕ → Option (List ℕ)
    → Option (List ℕ) → Result ℕ SendErr → Type 0
IsSending size from tape after moment moment_after old new (Ok count) =
    HasSynced size tape after moment moment_after × SendsAll size from tape old new count
IsSending size from tape after moment moment_after old new (Err (Read (reading.Stopped stop))) =
    IfSome tape (StopsBy size stop)
    × IsNotMade tape after moment moment_after × (new ≡ old)
IsSending size from tape after moment moment_after old new (Err (Read reading.Memory)) =
    IsNotMade tape after moment moment_after × (new ≡ old)
IsSending size from tape after moment moment_after old new (Err (Read (reading.Disk faults))) =
    (HasNotSynced size tape after moment moment_after × (new ≡ old))
    ⊎ (HasSynced size tape after moment moment_after × SendsFront size from tape old new)
IsSending size from tape after moment moment_after old new (Err (Sink fault)) =
    HasSynced size tape after moment moment_after × SendsFront size from tape old new

-- why it ended so: the counts of faults of the disk and of the sink, before and after
abbrev pub HasSendCause : {T : Type 0} → ℕ → ℕ → ℕ → ℕ → Result T SendErr → Type 0
HasSendCause disk disk_after sink sink_after (Ok sent) = (disk_after ≡ disk) × (sink_after ≡ sink)
HasSendCause disk disk_after sink sink_after (Err (Read error)) =
    HasReadCause disk disk_after (Err error) × (sink_after ≡ sink)
HasSendCause disk disk_after sink sink_after (Err (Sink fault)) =
    RoseByOne sink sink_after × (fault.faults ≡ sink_after) × (disk_after ≡ disk)
