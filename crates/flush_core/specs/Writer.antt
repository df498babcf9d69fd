-- A writer: what its fields tell, what it holds, and what a call of it leaves.
use Rattle.std.specs.Prelude.{◌≡◌, ℕ, ◌+◌, ◌*◌, ◌≤◌, ◌⊎◌, Bool, false, List, Option, Some, None, IfSome}
use Rattle.segment_disk.specs.declared.disk.Call.{Call}
use Rattle.segment_disk.specs.Cause.{Rose}
use Rattle.segment_disk.specs.Tape.{Tape, state_now}
use Rattle.flush_core.specs.declared.writer.Writer.{Writer}
use Rattle.flush_core.specs.Calls.{AreMade, BreaksOff, harden_calls, put_calls}
use Rattle.flush_core.specs.Left.{PutHistory, IsKeptWord, IsWordPut}
use Rattle.segment_disk.specs.Assured.{IsMadeUpto, IsNowhere, TapeAssures}
use Rattle.flush_core.specs.Pages.{PutPages, HoldsPut, ArePutUpto}
use Rattle.segment_disk.specs.Assured.{made_upto}

-- the disk that a writer writes to
abbrev pub disk_of : {D : Type 0} → Writer D → D
disk_of writer = writer.disk

-- the size of its segments
abbrev pub writer_segment_size : {D : Type 0} → Writer D → ℕ
writer_segment_size writer = writer.geometry

-- up to where the log is written
abbrev pub written_of : {D : Type 0} → Writer D → ℕ
written_of writer = writer.written.0

-- the last segment that is made, 0 where none is
abbrev pub last_made : {D : Type 0} → Writer D → ℕ
last_made writer = writer.made

-- whether a write waits for a sync
abbrev pub is_unsynced : {D : Type 0} → Writer D → Bool
is_unsynced writer = writer.unsynced

-- the disk's count of faults when it failed
abbrev pub writer_fault : {D : Type 0} → Writer D → Option ℕ
writer_fault writer = writer.fault

-- the calls that it makes to put a page
abbrev pub calls_to_put : {D : Type 0} → Writer D → ℕ → ℕ → List ℕ → List Call
calls_to_put writer page upto bytes =
    put_calls writer.geometry writer.made page upto bytes

-- the calls that it makes to harden what is written
abbrev pub calls_to_harden : {D : Type 0} → Writer D → List Call
calls_to_harden writer = harden_calls writer.geometry writer.written.0 writer.unsynced

-- all that is written lies in segments that are made
abbrev pub IsReached : {D : Type 0} → Writer D → Type 0
IsReached writer = writer.written.0 ≤ writer.made * writer.geometry + writer.geometry

-- a writer on a disk that has not failed and, where it tells what it holds, holds just these pages
pub record IsWriter {D : Type 0} (tape : D → Option Tape) (writer : Writer D) (pages : PutPages)
    : Type 0 where
  pub up : writer.fault ≡ None
  pub begun : writer.geometry ≤ writer.written.0
  pub reached : IsReached writer
  pub made : made_upto writer.geometry writer.written.0 ≤ writer.made
  pub put : ArePutUpto writer.written.0 pages
  pub holds : IfSome (tape writer.disk) (λ t.
      HoldsPut writer.geometry writer.written.0 writer.made writer.unsynced (state_now t) pages)

-- no segment is made but those that all that is written fills or begins to fill: as in a log that
-- is new
abbrev pub IsMadeAsWritten : {D : Type 0} → Writer D → Type 0
IsMadeAsWritten writer = writer.made ≡ made_upto writer.geometry writer.written.0

-- a disk holds just these pages of a log that is there, all of them durable: all below a position
-- is written, in segments from 1 to a last one
pub record HoldsLogPages (size written made : ℕ) (tape : Option Tape) (pages : PutPages)
    : Type 0 where
  pub begun : size ≤ written
  pub reached : written ≤ made * size + size
  pub made_as_far : made_upto size written ≤ made
  pub put : ArePutUpto written pages
  pub holds : IfSome tape (λ t. HoldsPut size written made false (state_now t) pages)

-- each crash from a moment on leaves the pages below a position: their segments, and in them each
-- word below it as it was put; none of these segments is made anew, since all that is written lies
-- in segments that are made
abbrev pub IsKept : {D : Type 0} → (D → Option Tape) → Writer D → ℕ → ℕ → PutPages → Type 0
IsKept tape writer moment position pages =
    let size = writer.geometry in
    IsReached writer
    × IfSome (tape writer.disk)
    (TapeAssures size (IsMadeUpto size position) (IsKeptWord position pages) moment)

-- each crash from a moment on leaves nothing but what was put, and no call from it on writes
-- anything else: in whatever segment is there, each word is zeros or was put there
abbrev pub HoldsOnly : {D : Type 0} → (D → Option Tape) → Writer D → ℕ → PutHistory → Type 0
HoldsOnly tape writer moment puts =
    IfSome (tape writer.disk) (TapeAssures writer.geometry IsNowhere (IsWordPut puts) moment)

-- a call during which the disk did not fail: the disk has made these calls and nothing else
pub record HasDone {D : Type 0} (tape : D → Option Tape) (moment faults : D → ℕ)
    (old new : Writer D) (calls : List Call) : Type 0 where
  pub was_up : old.fault ≡ None
  pub is_up : new.fault ≡ None
  pub made : AreMade (tape old.disk) (tape new.disk) (moment old.disk) (moment new.disk) calls
  pub quiet : faults new.disk ≡ faults old.disk

-- a call during which the disk failed: a front of these calls was made, and its count of faults is
-- told from now on
pub record FailsNow {D : Type 0} (tape : D → Option Tape) (moment faults : D → ℕ)
    (old new : Writer D) (told : ℕ) (calls : List Call) : Type 0 where
  pub was_up : old.fault ≡ None
  pub is_down : new.fault ≡ Some told
  pub is_told : told ≡ faults new.disk
  pub rose : Rose (faults old.disk) told
  pub made : BreaksOff (tape old.disk) (tape new.disk) (moment old.disk) (moment new.disk) calls

-- a call behind a failure: the same is told again, and nothing is touched
pub record FailsAgain {D : Type 0} (old new : Writer D) (told : ℕ) : Type 0 where
  pub was_down : old.fault ≡ Some told
  pub same : new ≡ old

-- why a call told a fault: the disk failed, or had failed before
abbrev pub TellsFault : {D : Type 0} → (D → Option Tape) → (D → ℕ) → (D → ℕ)
    → Writer D → Writer D → ℕ → List Call → Type 0
TellsFault tape moment faults old new told calls =
    FailsNow tape moment faults old new told calls ⊎ FailsAgain old new told
