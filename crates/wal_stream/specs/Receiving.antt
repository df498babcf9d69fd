-- A standby is fed with what a source hands out.
use Rattle.std.specs.Prelude.{◌≡◌, ℕ, ◌+◌, ◌*◌, ◌≤◌, ◌⊎◌, All, List, length, Option, Result}
use Rattle.segment_disk.specs.Tape.{Tape}
use Rattle.wal_stream.specs.Standby.{FailsToHarden, HasHardenedLog, standby_end}
use Rattle.wal_stream.specs.declared.answers.Accepted.{Accepted}
use Rattle.wal_stream.specs.declared.answers.StandbyErr.{StandbyErr}
use Rattle.wal_stream.specs.declared.standby.Standby.{Standby}
use Rattle.wal_stream.specs.Answered.{AreAnswered, AreCounts, AsksForMore, StopWith, disk_failed, diverged}
use Rattle.wal_stream.specs.Fetched.{FailsOnce, Gives, IsQuietSource, SourceState, TellsEnd, frames_in}
use Rattle.wal_stream.specs.declared.outcome.FrameCounts.{FrameCounts}
use Rattle.wal_stream.specs.declared.outcome.ReceivingEnd.{ReceivingEnd}
use Rattle.wal_stream.specs.declared.outcome.ReceivingEnd.TheVariants.{Source, TooMany, Diverged, SourceFault, Disk}
use Rattle.wal_stream.specs.declared.outcome.Received.{Received}

-- ---- how it ends

-- the bytes of as many frames as are taken at most
abbrev pub most_bytes : ℕ
most_bytes = 1048576 * 8224

-- the source told that nothing is left
pub record EndsAtSource (before after : SourceState) (bytes : List ℕ)
    (answers : List (Result Accepted StandbyErr)) : Type 0 where
  pub go_on : All AsksForMore answers
  pub tells : TellsEnd before after
  pub within : length bytes ≤ most_bytes

-- a byte came behind the last frame that is taken
pub record EndsAtLimit (before after : SourceState) (bytes : List ℕ)
    (answers : List (Result Accepted StandbyErr)) : Type 0 where
  pub go_on : All AsksForMore answers
  pub quiet : IsQuietSource before after
  pub beyond : length bytes ≡ most_bytes + 1

-- a frame was answered so, and no byte behind it was asked for
pub record EndsAtAnswer (last : Result Accepted StandbyErr) (before after : SourceState)
    (bytes : List ℕ) (answers : List (Result Accepted StandbyErr)) : Type 0 where
  pub stop : StopWith last answers
  pub quiet : IsQuietSource before after
  pub whole : length bytes ≡ length answers * 8224
  pub within : length answers ≤ 1048576

-- the source failed
pub record EndsAtFault (before after : SourceState) (bytes : List ℕ)
    (answers : List (Result Accepted StandbyErr)) : Type 0 where
  pub go_on : All AsksForMore answers
  pub fails : FailsOnce before after
  pub within : length bytes ≤ most_bytes

abbrev pub ReceivingEndsBy : ReceivingEnd → SourceState → SourceState → List ℕ
    → List (Result Accepted StandbyErr) → Type 0
ReceivingEndsBy Source = EndsAtSource
ReceivingEndsBy TooMany = EndsAtLimit
ReceivingEndsBy (Diverged at) = EndsAtAnswer (diverged at)
ReceivingEndsBy SourceFault = EndsAtFault
ReceivingEndsBy (Disk told) = EndsAtAnswer (disk_failed told)

-- ---- the frames are taken

-- a source handed out bytes, until it ended so. The frames in them were answered in turn, from the
-- standby as it was to it as it is, and their answers are counted
pub record TakesFrames {D : Type 0} (tape : D → Option Tape) (moment faults : D → ℕ)
    (before after : SourceState) (old new : Standby D) (counts : FrameCounts) (ended : ReceivingEnd)
    : Type 0 where
  pub bytes : List ℕ
  pub answers : List (Result Accepted StandbyErr)
  pub gives : Gives before after bytes
  pub answered : AreAnswered tape moment faults old (frames_in bytes) answers new
  pub counted : AreCounts answers counts
  pub ends : ReceivingEndsBy ended before after bytes answers

-- ---- and hardened

-- behind a fault of the source or the disk there is no harden
abbrev pub IsHardened : ReceivingEnd → Type 0
IsHardened Source = Unit {0}
IsHardened TooMany = Unit {0}
IsHardened (Diverged at) = Unit {0}
IsHardened SourceFault = ⊥
IsHardened (Disk told) = ⊥

-- it ended so, and what the frames left was hardened
pub record EndsHardened {D : Type 0} (tape : D → Option Tape) (moment faults : D → ℕ)
    (before after : SourceState) (old new : Standby D) (counts : FrameCounts) (ended : ReceivingEnd)
    : Type 0 where
  pub last : Standby D
  pub takes : TakesFrames tape moment faults before after old last counts ended
  pub hardens : HasHardenedLog tape moment faults last new (standby_end new)

-- it ended so, and then the disk failed when what the frames left was to be hardened
pub record EndsUnhardened {D : Type 0} (tape : D → Option Tape) (moment faults : D → ℕ)
    (before after : SourceState) (old new : Standby D) (counts : FrameCounts) (told : ℕ)
    : Type 0 where
  pub ended : ReceivingEnd
  pub is_hardened : IsHardened ended
  pub last : Standby D
  pub takes : TakesFrames tape moment faults before after old last counts ended
  pub fails : FailsToHarden tape moment faults last new told

abbrev pub EndsSo : {D : Type 0} → (D → Option Tape) → (D → ℕ) → (D → ℕ)
    → SourceState → SourceState → Standby D → Standby D → FrameCounts → ReceivingEnd → Type 0
EndsSo tape moment faults before after old new counts Source =
    EndsHardened tape moment faults before after old new counts Source
EndsSo tape moment faults before after old new counts TooMany =
    EndsHardened tape moment faults before after old new counts TooMany
EndsSo tape moment faults before after old new counts (Diverged at) =
    EndsHardened tape moment faults before after old new counts (Diverged at)
EndsSo tape moment faults before after old new counts SourceFault =
    TakesFrames tape moment faults before after old new counts SourceFault
EndsSo tape moment faults before after old new counts (Disk told) =
    TakesFrames tape moment faults before after old new counts (Disk told)
    ⊎ EndsUnhardened tape moment faults before after old new counts told

-- a standby was fed with what a source handed out
pub record Receives {D : Type 0} (tape : D → Option Tape) (moment faults : D → ℕ)
    (before after : SourceState) (old new : Standby D) (received : Received) : Type 0 where
  pub ends : EndsSo tape moment faults before after old new received.counts received.ended
  pub upto_is : received.upto.0 ≡ standby_end new
