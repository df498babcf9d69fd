-- Frames that are put into a sink, one behind another: what the code's own contracts go by.
use Rattle.std.specs.Prelude.{◌≡◌, ℕ, ◌*◌, List, length, take, Option, IfSome, Result, Ok, Err}
use Rattle.segment_disk.specs.Stream.{with_behind}
use Rattle.segment_disk.specs.Tape.{Tape, state_now}
use Rattle.wal_reader.specs.declared.standing.ReadErr.TheVariants as reading
use Rattle.waldump_text.specs.Put.{Puts}
use Rattle.waldump_text.specs.declared.putting.SinkFault.{SinkFault}
use Rattle.wal_stream.specs.declared.fault.SendErr.{SendErr}
use Rattle.wal_stream.specs.declared.fault.SendErr.TheVariants.{Read, Sink}
use Rattle.wal_stream.specs.SentFrames.{frame_of, frames_between, page_read}

-- the frame of a page as the disk reads it, where it tells what it holds
abbrev pub IsFrameOfPage : ℕ → ℕ → ℕ → Option Tape → List ℕ → Type 0
IsFrameOfPage size page end tape bytes =
    IfSome tape (λ t. bytes ≡ frame_of size (page_read size (state_now t)) end page)

-- a sink took a page's frame, or a front of it where it failed; where the page was not read nothing
pub record PutsFrameBytes (size page end : ℕ) (tape : Option Tape) (old new : Option (List ℕ))
    (faults faults_after : ℕ) (result : Result (Unit {0}) SinkFault) : Type 0 where
  pub bytes : List ℕ
  pub are : IsFrameOfPage size page end tape bytes
  pub long : length bytes ≡ 8224
  pub puts : Puts old new faults faults_after bytes result

abbrev pub PutsFrame : ℕ → ℕ → ℕ → Option Tape → Option (List ℕ) → Option (List ℕ) → ℕ → ℕ
    → Result (Unit {0}) SendErr → Type 0
PutsFrame size page end tape old new faults faults_after (Ok done) =
    PutsFrameBytes size page end tape old new faults faults_after (Ok done)
PutsFrame size page end tape old new faults faults_after (Err (Read (reading.Disk count))) =
    new ≡ old
PutsFrame size page end tape old new faults faults_after (Err (Read reading.Memory)) = ⊥
PutsFrame size page end tape old new faults faults_after (Err (Read (reading.Stopped stop))) = ⊥
PutsFrame size page end tape old new faults faults_after (Err (Sink fault)) =
    PutsFrameBytes size page end tape old new faults faults_after (Err fault)

-- the frames of the pages between two addresses
abbrev pub AreFramesBetween : ℕ → ℕ → ℕ → Option Tape → List ℕ → Type 0
AreFramesBetween size from end tape frames =
    IfSome tape (λ t. frames ≡ frames_between size (page_read size (state_now t)) from end)

-- a sink took them all, or a front
pub record PutsAllFrames (size from end : ℕ) (tape : Option Tape) (old new : Option (List ℕ))
    (count : ℕ) : Type 0 where
  pub frames : List ℕ
  pub are : AreFramesBetween size from end tape frames
  pub long : length frames ≡ 8224 * count
  pub put : new ≡ with_behind old frames

pub record PutsFrontOfFrames (size from end : ℕ) (tape : Option Tape) (old new : Option (List ℕ))
    : Type 0 where
  pub frames : List ℕ
  pub are : AreFramesBetween size from end tape frames
  pub count : ℕ
  pub put : new ≡ with_behind old (take count frames)

abbrev pub PutsFrames : ℕ → ℕ → ℕ → Option Tape → Option (List ℕ) → Option (List ℕ)
    → Result ℕ SendErr → Type 0
PutsFrames size from end tape old new (Ok count) = PutsAllFrames size from end tape old new count
PutsFrames size from end tape old new (Err (Read (reading.Disk count))) =
    PutsFrontOfFrames size from end tape old new
PutsFrames size from end tape old new (Err (Read reading.Memory)) = ⊥
PutsFrames size from end tape old new (Err (Read (reading.Stopped stop))) = ⊥
PutsFrames size from end tape old new (Err (Sink fault)) =
    PutsFrontOfFrames size from end tape old new
