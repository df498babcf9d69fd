-- The answers of a standby to frames that come one after another.
use Rattle.std.specs.Prelude.{◌≡◌, ℕ, Bool, true, false, All, List, [], ◌∷◌, ◌++◌, count_by, Option, Result, Ok, Err}
use Rattle.segment_disk.specs.Tape.{Tape}
use Rattle.wal_stream.specs.Standby.{AnswersFrame}
use Rattle.wal_stream.specs.declared.answers.Accepted.{Accepted}
use Rattle.wal_stream.specs.declared.answers.Accepted.TheVariants.{Old, Taken}
use Rattle.wal_stream.specs.declared.answers.StandbyErr.{StandbyErr}
use Rattle.wal_stream.specs.declared.answers.StandbyErr.TheVariants.{Bad, Gap, Diverged, Disk}
use Rattle.wal_stream.specs.declared.standby.Standby.{Standby}
use Rattle.wal_types.specs.declared.lsn.Lsn.{Lsn}
use Rattle.wal_stream.specs.declared.outcome.FrameCounts.{FrameCounts}

-- these frames were answered so, one after another, from a standby as it was to it as it is
abbrev pub AreAnswered : {D : Type 0} → (D → Option Tape) → (D → ℕ) → (D → ℕ) → Standby D
    → List (List ℕ) → List (Result Accepted StandbyErr) → Standby D → Type 0
AreAnswered tape moment faults old [] [] new = new ≡ old
AreAnswered {D} tape moment faults old (frame ∷ frames) (answer ∷ answers) new =
    (behind : Standby D) × AnswersFrame tape moment faults old behind frame answer
    × AreAnswered tape moment faults behind frames answers new
AreAnswered tape moment faults old [] (answer ∷ answers) new = ⊥
AreAnswered tape moment faults old (frame ∷ frames) [] new = ⊥

-- ---- how many answers there were of each kind

abbrev pub is_taken : Result Accepted StandbyErr → Bool
is_taken (Ok (Taken upto)) = true
is_taken _ = false

abbrev pub is_old : Result Accepted StandbyErr → Bool
is_old (Ok (Old upto)) = true
is_old _ = false

abbrev pub is_gap : Result Accepted StandbyErr → Bool
is_gap (Err (Gap at)) = true
is_gap _ = false

abbrev pub is_bad : Result Accepted StandbyErr → Bool
is_bad (Err Bad) = true
is_bad _ = false

pub record AreCounts (answers : List (Result Accepted StandbyErr)) (counts : FrameCounts)
    : Type 0 where
  pub taken : counts.taken ≡ count_by is_taken answers
  pub old : counts.old ≡ count_by is_old answers
  pub gap : counts.gap ≡ count_by is_gap answers
  pub bad : counts.bad ≡ count_by is_bad answers

-- ---- whether a further frame is asked for

-- behind such an answer it is
abbrev pub AsksForMore : Result Accepted StandbyErr → Type 0
AsksForMore (Ok accepted) = Unit {0}
AsksForMore (Err Bad) = Unit {0}
AsksForMore (Err (Gap at)) = Unit {0}
AsksForMore (Err (Diverged at)) = ⊥
AsksForMore (Err (Disk told)) = ⊥

abbrev pub diverged : Lsn → Result Accepted StandbyErr
diverged at = Err (Diverged at)

abbrev pub disk_failed : ℕ → Result Accepted StandbyErr
disk_failed told = Err (Disk told)

-- the last answer is this one, and the first behind which it is not
pub record StopWith (last : Result Accepted StandbyErr)
    (answers : List (Result Accepted StandbyErr)) : Type 0 where
  pub before : List (Result Accepted StandbyErr)
  pub go_on : All AsksForMore before
  pub are : answers ≡ before ++ last ∷ []
