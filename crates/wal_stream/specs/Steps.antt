-- What is done with one frame, and behind the last.
use Rattle.std.specs.Prelude.{◌≡◌, ℕ, ◌+◌, ◌⊎◌, List, [], length, Option, Result, Ok, Err}
use Rattle.segment_disk.specs.Tape.{Tape}
use Rattle.wal_stream.specs.Standby.{AnswersFrame, FailsToHarden, HasHardenedLog, standby_end}
use Rattle.wal_stream.specs.declared.answers.Accepted.{Accepted}
use Rattle.wal_stream.specs.declared.answers.Accepted.TheVariants.{Old, Taken}
use Rattle.wal_stream.specs.declared.answers.StandbyErr.{StandbyErr}
use Rattle.wal_stream.specs.declared.answers.StandbyErr.TheVariants.{Bad, Gap, Diverged, Disk}
use Rattle.wal_stream.specs.declared.standby.Standby.{Standby}
use Rattle.wal_stream.specs.Fetched.{FailsOnce, Gives, GivesFront, IsQuietSource, SourceState, TellsEnd}
use Rattle.wal_stream.specs.Receiving.{IsHardened}
use Rattle.wal_stream.specs.declared.fetching.Fetched.{Fetched}
use Rattle.wal_stream.specs.declared.fetching.Fetched.TheVariants.{Whole, End, Fault}
use Rattle.wal_stream.specs.declared.outcome.FrameCounts.{FrameCounts}
use Rattle.wal_stream.specs.declared.outcome.ReceivingEnd.{ReceivingEnd}
use Rattle.wal_stream.specs.declared.outcome.ReceivingEnd.TheVariants.{Source, TooMany, SourceFault}
use Rattle.wal_stream.specs.declared.outcome.ReceivingEnd.TheVariants as ended

-- what the source gave, when it was asked for a frame: all of it; a front, if any byte, and then
-- that nothing is left; a front, and then it failed
abbrev pub Fetches : SourceState → SourceState → List ℕ → Fetched → Type 0
Fetches before after frame Whole = Gives before after frame × IsQuietSource before after
Fetches before after frame End = GivesFront before after × TellsEnd before after
Fetches before after frame Fault = GivesFront before after × FailsOnce before after

-- how many frames are counted
abbrev pub counted_frames : FrameCounts → ℕ
counted_frames counts = counts.taken + counts.old + counts.gap + counts.bad

-- with one answer more; or how it ends with that
abbrev pub counts_with : FrameCounts → Result Accepted StandbyErr → Result FrameCounts ReceivingEnd
counts_with counts (Ok (Taken upto)) = Ok (record counts { taken = counts.taken + 1 })
counts_with counts (Ok (Old upto)) = Ok (record counts { old = counts.old + 1 })
counts_with counts (Err (Gap at)) = Ok (record counts { gap = counts.gap + 1 })
counts_with counts (Err Bad) = Ok (record counts { bad = counts.bad + 1 })
counts_with counts (Err (Diverged at)) = Err (ended.Diverged at)
counts_with counts (Err (Disk told)) = Err (ended.Disk told)

-- a frame came, and was answered
pub record TakesFrame {D : Type 0} (tape : D → Option Tape) (moment faults : D → ℕ)
    (before after : SourceState) (old new : Standby D) (counts : FrameCounts)
    (counted : Result FrameCounts ReceivingEnd) : Type 0 where
  pub frame : List ℕ
  pub answer : Result Accepted StandbyErr
  pub long : length frame ≡ 8224
  pub gives : Gives before after frame
  pub quiet : IsQuietSource before after
  pub answers : AnswersFrame tape moment faults old new frame answer
  pub counted_is : counted ≡ counts_with counts answer

-- no frame came
pub record TakesNone {D : Type 0} (before after : SourceState) (old new : Standby D)
    (counted : Result FrameCounts ReceivingEnd) : Type 0 where
  pub gives : GivesFront before after
  pub same : new ≡ old
  pub why : ((counted ≡ Err Source) × TellsEnd before after)
      ⊎ ((counted ≡ Err SourceFault) × FailsOnce before after)

abbrev pub TakesNext : {D : Type 0} → (D → Option Tape) → (D → ℕ) → (D → ℕ)
    → SourceState → SourceState → Standby D → Standby D → FrameCounts
    → Result FrameCounts ReceivingEnd → Type 0
TakesNext tape moment faults before after old new counts counted =
    TakesFrame tape moment faults before after old new counts counted
    ⊎ TakesNone before after old new counted

-- behind the last frame that is taken: nothing comes, or a byte, or the source fails
abbrev pub LooksBehind : SourceState → SourceState → ReceivingEnd → Type 0
LooksBehind before after Source = Gives before after [] × TellsEnd before after
LooksBehind before after TooMany =
    (byte : List ℕ) × (length byte ≡ 1) × Gives before after byte × IsQuietSource before after
LooksBehind before after SourceFault = Gives before after [] × FailsOnce before after
LooksBehind before after (ended.Diverged at) = ⊥
LooksBehind before after (ended.Disk told) = ⊥

-- what the frames left was hardened; or that failed; or a fault had ended them, and it is as it was
abbrev pub HardensBehind : {D : Type 0} → (D → Option Tape) → (D → ℕ) → (D → ℕ)
    → Standby D → Standby D → ReceivingEnd → ReceivingEnd → Type 0
HardensBehind tape moment faults last new why told =
    (IsHardened why × (told ≡ why)
    × HasHardenedLog tape moment faults last new (standby_end new))
    ⊎ (IsHardened why × ((count : ℕ) × (told ≡ ended.Disk count)
    × FailsToHarden tape moment faults last new count))
    ⊎ ((IsHardened why → ⊥) × (told ≡ why) × (new ≡ last))
