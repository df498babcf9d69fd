-- A standby that is sent nothing but frames of one log: what holds of it, whatever the link does.
use Rattle.std.specs.Prelude.{◌≡◌, ℕ, ◌+◌, ◌*◌, ◌/◌, ◌%◌, ◌<◌, ◌≤◌, List, [], ◌∷◌, ◌++◌, Option, None, Result}
use Rattle.segment_disk.specs.DiskImage.{word_of}
use Rattle.segment_disk.specs.Tape.{Tape}
use Rattle.flush_core.specs.Left.{IsWordPut, PutHistory}
use Rattle.flush_core.specs.Pages.{PutPages}
use Rattle.flush_core.specs.SettledLog.{IsLogWord, IsZeroOrLogWord}
use Rattle.flush_core.specs.Writer.{HoldsOnly, IsKept, IsWriter}
use Rattle.wal_page.specs.Order.{Entry}
use Rattle.wal_stream.specs.Frame.{IsFrame, IsSentOfLog, SentPage}
use Rattle.wal_stream.specs.Standby.{AnswersFrame, FailsToHarden, HasHardenedLog, own_page, standby_disk, standby_end, standby_fault}
use Rattle.wal_stream.specs.declared.answers.Accepted.{Accepted}
use Rattle.wal_stream.specs.declared.answers.StandbyErr.{StandbyErr}
use Rattle.wal_stream.specs.declared.standby.Standby.{Standby}

-- ---- what holds

-- the words of these pages below an address are an order's
abbrev pub HaveLogBelow : ℕ → ℕ → List Entry → ℕ → PutPages → Type 0
HaveLogBelow size sysid es address pages =
    (page word : ℕ) → word < 1024 → page * 8192 + 8 * word < address
    → IsLogWord size sysid es page word (word_of (pages page) word)

-- the disk holds such pages up to the standby's end
pub record HoldsLogUpto {D : Type 0} (tape : D → Option Tape) (sysid : ℕ) (es : List Entry)
    (s : Standby D) : Type 0 where
  pub pages : PutPages
  pub writer : IsWriter tape s.writer pages
  pub log : HaveLogBelow s.geometry sysid es (standby_end s) pages

-- nothing was ever put but words of the log and zeros, so that nothing else is left by a crash from
-- a moment on
pub record HasPutOnlyLog {D : Type 0} (tape : D → Option Tape) (sysid : ℕ) (es : List Entry)
    (since : ℕ) (s : Standby D) : Type 0 where
  pub puts : PutHistory
  pub only : HoldsOnly tape s.writer since puts
  pub log : (page word : ℕ) (bytes : List ℕ) → word < 1024 → IsWordPut puts page word bytes
      → IsZeroOrLogWord s.geometry sysid es page word bytes

-- the standby has a front of the log, on its disk and in its own page
pub record FollowsLog {D : Type 0} (tape : D → Option Tape) (sysid : ℕ) (es : List Entry)
    (since : ℕ) (s : Standby D) : Type 0 where
  pub whole : standby_end s % 8 ≡ 0
  pub own : (k : ℕ) → standby_end s / 8192 * 8192 + 8 * k < standby_end s
      → IsLogWord s.geometry sysid es (standby_end s / 8192) k (word_of (own_page s) k)
  pub puts : HasPutOnlyLog tape sysid es since s
  pub holds : standby_fault s ≡ None → HoldsLogUpto tape sysid es s

-- each crash from a moment on leaves the log below an address
pub record KeepsLogUpto {D : Type 0} (tape : D → Option Tape) (sysid : ℕ) (es : List Entry)
    (s : Standby D) (promise : ℕ × ℕ) : Type 0 where
  pub pages : PutPages
  pub kept : IsKept tape s.writer promise.0 promise.1 pages
  pub log : HaveLogBelow s.geometry sysid es promise.1 pages
  pub within : promise.1 ≤ standby_end s
  pub whole : promise.1 % 8 ≡ 0

-- ---- what is done with it

-- bytes that come over the link of a log: if they are a frame at all, they are one of the log's.
-- What is cut short or garbled is none
abbrev pub ComesOfLog : ℕ → ℕ → List Entry → ℕ → List ℕ → Type 0
ComesOfLog size sysid es hardened bytes =
    (sent : SentPage) → IsFrame size bytes sent → IsSentOfLog size sysid es hardened sent

-- what is done with a standby, and what it answers: bytes come, it hardens, it cannot harden
pub data SentStep : Type 0 where
  Offer : (bytes : List ℕ) (answer : Result Accepted StandbyErr) → SentStep
  Harden : (upto : ℕ) → SentStep
  NotHardened : (told : ℕ) → SentStep

abbrev pub IsSentStep : {D : Type 0} → (D → Option Tape) → (D → ℕ) → (D → ℕ) → ℕ → List Entry → ℕ
    → Standby D → Standby D → SentStep → Type 0
IsSentStep tape moment faults sysid es hardened old new (Offer bytes answer) =
    ComesOfLog old.geometry sysid es hardened bytes
    × AnswersFrame tape moment faults old new bytes answer
IsSentStep tape moment faults sysid es hardened old new (Harden upto) =
    HasHardenedLog tape moment faults old new upto
IsSentStep tape moment faults sysid es hardened old new (NotHardened told) =
    FailsToHarden tape moment faults old new told

-- one after another, as often as may be and in any order; each step with the standby behind it
abbrev pub AreSentSteps : {D : Type 0} → (D → Option Tape) → (D → ℕ) → (D → ℕ) → ℕ → List Entry
    → ℕ → Standby D → List (SentStep × Standby D) → Type 0
AreSentSteps tape moment faults sysid es hardened old [] = Unit {0}
AreSentSteps tape moment faults sysid es hardened old (step ∷ steps) =
    IsSentStep tape moment faults sysid es hardened old step.1 step.0
    × AreSentSteps tape moment faults sysid es hardened step.1 steps

abbrev pub standby_behind : {D : Type 0} → Standby D → List (SentStep × Standby D) → Standby D
standby_behind s [] = s
standby_behind s (step ∷ steps) = standby_behind step.1 steps

-- what was promised meanwhile: a moment, and up to where the log is durable from it on
abbrev pub promise_of : SentStep → ℕ → List (ℕ × ℕ)
promise_of (Offer bytes answer) moment = []
promise_of (Harden upto) moment = (moment, upto) ∷ []
promise_of (NotHardened told) moment = []

abbrev pub promises_of : {D : Type 0} → (D → ℕ) → List (SentStep × Standby D) → List (ℕ × ℕ)
promises_of moment [] = []
promises_of moment (step ∷ steps) =
    promise_of step.0 (moment (standby_disk step.1)) ++ promises_of moment steps
