-- What is read of a log is made durable before any of it is sent: each segment that is there is
-- synced, from 1 up to the first that is not, in turn, and no other call is made.
use Rattle.std.specs.Prelude.{◌≡◌, ℕ, ◌+◌, ◌≤◌, ◌⊎◌, List, length, Option, None, IfSome}
use Rattle.std.specs.List.{range_with_len}
use Rattle.segment_disk.specs.DiskImage.{DiskImage, LeftAt, image_as_read}
use Rattle.segment_disk.specs.Tape.{DiskState, IsNotMade, Tape, page_of_segment, state_now}
use Rattle.flush_core.specs.Settled.{AreAllThere, IfWhole, KeepsOld, KeepsRead, MakesCalls, StopsCalls, sync_calls}
use Rattle.wal_types.specs.declared.lsn.Lsn.{Lsn}
use Rattle.wal_reader.specs.Decodes.{Decodes}
use Rattle.wal_reader.specs.Pages.{pages_in}
use Rattle.wal_reader.specs.declared.found.Answer.TheVariants as answers
use Rattle.wal_reader.specs.declared.found.FoundRecord.{FoundRecord}

-- whatever a crash leaves from a moment on decodes to all records that were read, and then ends
abbrev pub LeavesList : ℕ → DiskState → ℕ → Tape → Type 0
LeavesList size before moment tape =
    (found : List FoundRecord) (at : Lsn)
    → Decodes size (pages_in size (image_as_read before)) size None found (answers.End at)
    → (m : ℕ) (image : DiskImage) → moment ≤ m → LeftAt tape m image
    → Decodes size (pages_in size image) size None found (answers.End at)

-- each page that is there has 8,192 bytes, however many its segment has
abbrev pub HavePageBytes : DiskState → Type 0
HavePageBytes state = (segment page : ℕ)
    → IfSome (page_of_segment (state segment) page) (λ bytes. length bytes ≡ 8192)

-- so it is behind the syncs of a disk with such pages
abbrev pub LeavesRead : ℕ → Option Tape → Option Tape → ℕ → Type 0
LeavesRead size old new moment = IfSome old (λ t. HavePageBytes (state_now t)
    → IfSome new (LeavesList size (state_now t) moment))

-- it was, of the segments from 1 to `count`. Whatever a crash leaves from the end of these calls on
-- has in them just the words that were read below any address, so all of them
pub record HasSynced (size : ℕ) (old new : Option Tape) (old_moment new_moment : ℕ) : Type 0 where
  pub count : ℕ
  pub there : IfSome old (λ t. AreAllThere size (state_now t) count)
  pub calls : MakesCalls old new old_moment new_moment
      (λ _. sync_calls size (range_with_len 1 count))
  pub keeps_old : (end : ℕ) → IfWhole size old new
      (λ before. KeepsOld size before count end old_moment)
  pub keeps_read : (end : ℕ) → IfWhole size old new
      (λ before. KeepsRead size before count end (old_moment + count))
  pub leaves : LeavesRead size old new (old_moment + count)

-- a front of these calls was made, and the next one may have failed
pub record SyncsFront (size : ℕ) (old new : Option Tape) (old_moment new_moment : ℕ) : Type 0 where
  pub count : ℕ
  pub there : IfSome old (λ t. AreAllThere size (state_now t) count)
  pub calls : StopsCalls old new old_moment new_moment
      (λ _. sync_calls size (range_with_len 1 count))
  pub keeps_old : (end : ℕ) → IfWhole size old new
      (λ before. KeepsOld size before count end old_moment)

-- the disk failed before all were synced: while the segments were counted no call was made
abbrev pub HasNotSynced : ℕ → Option Tape → Option Tape → ℕ → ℕ → Type 0
HasNotSynced size old new old_moment new_moment =
    IsNotMade old new old_moment new_moment ⊎ SyncsFront size old new old_moment new_moment
