-- A standby: what it holds, and what it answers to what comes over the link.
use Rattle.std.specs.Prelude.{◌≡◌, ◌≢◌, ℕ, ◌+◌, ◌*◌, ◌/◌, ◌<◌, ◌≤◌, ◌⊎◌, List, Option, Some, None, Result, Ok, Err}
use Rattle.byte_position.specs.Geometry.{pages_of}
use Rattle.segment_disk.specs.DiskImage.{word_of}
use Rattle.segment_disk.specs.Tape.{Tape}
use Rattle.flush_core.specs.Left.{first_puts}
use Rattle.flush_core.specs.Pages.{PutPages}
use Rattle.flush_core.specs.Puts.{HasHardened, HasNotPut, HasPutPage, Keeps, KeepsBehindPut}
use Rattle.flush_core.specs.Settled.{IsAmong}
use Rattle.flush_core.specs.Writer.{HoldsOnly, IsKept, IsWriter, TellsFault, calls_to_harden, disk_of, writer_fault, written_of}
use Rattle.wal_stream.specs.Frame.{IsFrame, SentPage}
use Rattle.wal_stream.specs.declared.answers.Accepted.{Accepted}
use Rattle.wal_stream.specs.declared.answers.Accepted.TheVariants.{Old, Taken}
use Rattle.wal_stream.specs.declared.answers.StandbyErr.{StandbyErr}
use Rattle.wal_stream.specs.declared.answers.StandbyErr.TheVariants.{Bad, Gap, Diverged, Disk}
use Rattle.wal_stream.specs.declared.standby.Standby.{Standby}

-- ---- what it holds

-- up to where it has the log, its disk, the disk's count of faults when it failed, and its own
-- page, in which the log ends
abbrev pub standby_end : {D : Type 0} → Standby D → ℕ
standby_end s = written_of s.writer

abbrev pub standby_disk : {D : Type 0} → Standby D → D
standby_disk s = disk_of s.writer

abbrev pub standby_fault : {D : Type 0} → Standby D → Option ℕ
standby_fault s = writer_fault s.writer

abbrev pub own_page : {D : Type 0} → Standby D → List ℕ
own_page s = s.page.value

-- neither the size of its segments nor its cap ever changes
pub record IsSameKind {D : Type 0} (old new : Standby D) : Type 0 where
  pub size : new.geometry ≡ old.geometry
  pub cap : new.cap ≡ old.cap

-- it goes on on a disk that holds just these pages of the log, all of them durable
pub record HasResumed {D : Type 0} (tape : D → Option Tape) (moment : D → ℕ) (disk : D)
    (end : ℕ) (pages : PutPages) (s : Standby D) : Type 0 where
  pub holds : IsWriter tape s.writer pages
  pub kept : IsKept tape s.writer (moment disk) end pages
  pub only : HoldsOnly tape s.writer (moment disk) (first_puts pages)

-- ---- what is sent to it

-- two pages of this number have the same words below an address
abbrev pub AgreeUpto : ℕ → ℕ → List ℕ → List ℕ → Type 0
AgreeUpto address page one other =
    (k : ℕ) → page * 8192 + 8 * k < address → word_of one k ≡ word_of other k

-- the first word below an address in which they differ stands here
pub record DifferFirstAt (address page : ℕ) (one other : List ℕ) (at : ℕ) : Type 0 where
  pub word : ℕ
  pub at_is : at ≡ page * 8192 + 8 * word
  pub below : at < address
  pub before : AgreeUpto at page one other
  pub here : word_of one word ≢ word_of other word

-- bytes are a frame of its segment size, of a page of the segments from 1 to its last
pub record Brings {D : Type 0} (s : Standby D) (bytes : List ℕ) (sent : SentPage) : Type 0 where
  pub frame : IsFrame s.geometry bytes sent
  pub among : IsAmong s.cap (sent.page / pages_of s.geometry)

-- the page is the one that begins at the standby's end or holds it, and is sent further than that
pub record IsNextSent {D : Type 0} (s : Standby D) (sent : SentPage) : Type 0 where
  pub rises : standby_end s < sent.upto
  pub holds_end : sent.page ≡ standby_end s / 8192

-- .. and it has the standby's own words up to there
pub record Extends {D : Type 0} (s : Standby D) (bytes : List ℕ) (sent : SentPage) : Type 0 where
  pub brings : Brings s bytes sent
  pub next : IsNextSent s sent
  pub agrees : AgreeUpto (standby_end s) sent.page sent.bytes (own_page s)

-- ---- what it answers

-- no frame that it can use; nothing changed
pub record AnswersBad {D : Type 0} (old new : Standby D) (bytes : List ℕ) : Type 0 where
  pub up : standby_fault old ≡ None
  pub none : (sent : SentPage) → Brings old bytes sent → ⊥
  pub same : new ≡ old

-- a frame of what it has; nothing changed
pub record AnswersOld {D : Type 0} (old new : Standby D) (bytes : List ℕ) (upto : ℕ) : Type 0 where
  pub up : standby_fault old ≡ None
  pub sent : SentPage
  pub brings : Brings old bytes sent
  pub upto_is : upto ≡ sent.upto
  pub had : sent.upto ≤ standby_end old
  pub same : new ≡ old

-- a frame of a page other than the next one; nothing changed
pub record AnswersGap {D : Type 0} (old new : Standby D) (bytes : List ℕ) (at : ℕ) : Type 0 where
  pub up : standby_fault old ≡ None
  pub sent : SentPage
  pub brings : Brings old bytes sent
  pub rises : standby_end old < sent.upto
  pub elsewhere : sent.page ≢ standby_end old / 8192
  pub at_is : at ≡ standby_end old
  pub same : new ≡ old

-- a frame of the next page, with other words than the standby has; nothing changed
pub record AnswersDiverged {D : Type 0} (old new : Standby D) (bytes : List ℕ) (at : ℕ)
    : Type 0 where
  pub up : standby_fault old ≡ None
  pub sent : SentPage
  pub brings : Brings old bytes sent
  pub next : IsNextSent old sent
  pub differs : DifferFirstAt (standby_end old) sent.page sent.bytes (own_page old) at
  pub same : new ≡ old

-- the page was put, in just the calls of a writer: it is the standby's own now, and ends its log
pub record AnswersTaken {D : Type 0} (tape : D → Option Tape) (moment faults : D → ℕ)
    (old new : Standby D) (bytes : List ℕ) (upto : ℕ) : Type 0 where
  pub sent : SentPage
  pub extends : Extends old bytes sent
  pub put : HasPutPage tape moment faults old.writer new.writer sent.page sent.upto sent.bytes
  pub keeps : KeepsBehindPut tape old.writer new.writer sent.page sent.bytes
  pub upto_is : upto ≡ sent.upto
  pub own : own_page new ≡ sent.bytes
  pub kind : IsSameKind old new

-- the disk failed while the page was put
pub record FailsToTake {D : Type 0} (tape : D → Option Tape) (moment faults : D → ℕ)
    (old new : Standby D) (bytes : List ℕ) (told : ℕ) : Type 0 where
  pub up : standby_fault old ≡ None
  pub sent : SentPage
  pub extends : Extends old bytes sent
  pub failed : HasNotPut tape moment faults old.writer new.writer told sent.page sent.upto
      sent.bytes
  pub keeps : KeepsBehindPut tape old.writer new.writer sent.page sent.bytes
  pub own : own_page new ≡ own_page old
  pub kind : IsSameKind old new

-- it had failed before: that is told again, and nothing is touched
pub record RepeatsFault {D : Type 0} (old new : Standby D) (told : ℕ) : Type 0 where
  pub down : standby_fault old ≡ Some told
  pub same : new ≡ old

-- which of these it is, by the answer
abbrev pub AnswersFrame : {D : Type 0} → (D → Option Tape) → (D → ℕ) → (D → ℕ)
    → Standby D → Standby D → List ℕ → Result Accepted StandbyErr → Type 0
AnswersFrame tape moment faults old new bytes (Ok (Old upto)) = AnswersOld old new bytes upto.0
AnswersFrame tape moment faults old new bytes (Ok (Taken upto)) =
    AnswersTaken tape moment faults old new bytes upto.0
AnswersFrame tape moment faults old new bytes (Err Bad) = AnswersBad old new bytes
AnswersFrame tape moment faults old new bytes (Err (Gap at)) = AnswersGap old new bytes at.0
AnswersFrame tape moment faults old new bytes (Err (Diverged at)) =
    AnswersDiverged old new bytes at.0
AnswersFrame tape moment faults old new bytes (Err (Disk told)) =
    FailsToTake tape moment faults old new bytes told ⊎ RepeatsFault old new told

-- ---- hardened

-- what it has is durable, after one sync, or no call where nothing waited for it
pub record HasHardenedLog {D : Type 0} (tape : D → Option Tape) (moment faults : D → ℕ)
    (old new : Standby D) (upto : ℕ) : Type 0 where
  pub hardened : HasHardened tape moment faults old.writer new.writer
      (moment (standby_disk new)) (standby_end old)
  pub keeps : Keeps tape old.writer new.writer
  pub upto_is : upto ≡ standby_end old
  pub end_is : standby_end new ≡ standby_end old
  pub own : own_page new ≡ own_page old
  pub kind : IsSameKind old new

-- the sync failed, or the disk had failed before
pub record FailsToHarden {D : Type 0} (tape : D → Option Tape) (moment faults : D → ℕ)
    (old new : Standby D) (told : ℕ) : Type 0 where
  pub why : TellsFault tape moment faults old.writer new.writer told (calls_to_harden old.writer)
  pub keeps : Keeps tape old.writer new.writer
  pub end_is : standby_end new ≡ standby_end old
  pub own : own_page new ≡ own_page old
  pub kind : IsSameKind old new

-- the refusal of a harden: no other one comes
abbrev pub HardensNot : {D : Type 0} → (D → Option Tape) → (D → ℕ) → (D → ℕ)
    → Standby D → Standby D → StandbyErr → Type 0
HardensNot tape moment faults old new Bad = ⊥
HardensNot tape moment faults old new (Gap at) = ⊥
HardensNot tape moment faults old new (Diverged at) = ⊥
HardensNot tape moment faults old new (Disk told) = FailsToHarden tape moment faults old new told
