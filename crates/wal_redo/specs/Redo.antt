-- What redo leaves of a store, and how it ends.
use Rattle.std.specs.Prelude.{◌≡◌, ℕ, Bool, true, false, List, ◌++◌, length, Option, None, Result, Ok, Err, MatchResult}
use Rattle.segment_disk.specs.Cause.{RoseByOne}
use Rattle.segment_disk.specs.Tape.{Tape}
use Rattle.wal_types.specs.declared.lsn.Lsn.{Lsn}
use Rattle.wal_reader.specs.Cache.{log_of}
use Rattle.wal_reader.specs.Decodes.{Decodes}
use Rattle.wal_reader.specs.declared.found.FoundRecord.{FoundRecord}
use Rattle.wal_reader.specs.declared.found.Answer.{Answer}
use Rattle.wal_reader.specs.declared.found.Answer.TheVariants as answers
use Rattle.wal_reader.specs.declared.found.Stopped.{Stopped as LogStop}
use Rattle.wal_reader.specs.declared.standing.ReadErr.{ReadErr}
use Rattle.wal_reader.specs.declared.standing.ReadErr.TheVariants as reading
use Rattle.wal_redo.specs.declared.blocks.PutErr.{PutErr}
use Rattle.wal_redo.specs.declared.blocks.PutErr.TheVariants as putting
use Rattle.wal_redo.specs.declared.redoing.RedoErr.{RedoErr}
use Rattle.wal_redo.specs.declared.redoing.RedoErr.TheVariants as redoing
use Rattle.wal_redo.specs.BlockMap.{BlockMap, PagePut, told_behind}
use Rattle.wal_redo.specs.Images.{puts_in}

-- ---- one put

-- whether a put failed
abbrev pub is_failed : Result Unit PutErr → Bool
is_failed (Ok done) = false
is_failed (Err putting.Memory) = false
is_failed (Err putting.Failed) = true

-- a store's count of faults rises only where a put of it failed
abbrev pub HasPutCause : ℕ → ℕ → Result Unit PutErr → Type 0
HasPutCause old new (Ok done) = new ≡ old
HasPutCause old new (Err putting.Memory) = new ≡ old
HasPutCause old new (Err putting.Failed) = RoseByOne old new

-- ---- puts, one behind another

-- a front of these puts was made: what a store tells is what it told, overridden by what they give
pub record PutsSome (old new : Option BlockMap) (puts : List PagePut) : Type 0 where
  pub front : List PagePut
  pub rest : List PagePut
  pub parts : puts ≡ front ++ rest
  pub put : new ≡ told_behind old front

-- all of them were made, so many
pub record PutsAll (old new : Option BlockMap) (puts : List PagePut) (count : ℕ) : Type 0 where
  pub put : new ≡ told_behind old puts
  pub count_is : count ≡ length puts

abbrev pub EndsPuts : Option BlockMap → Option BlockMap → List PagePut → Result ℕ RedoErr → Type 0
EndsPuts old new puts result =
    MatchResult result (PutsAll old new puts) (λ _. PutsSome old new puts)

-- why puts end so: nothing but memory and the store keeps them from being made
abbrev pub HasStoreCause : ℕ → ℕ → Result ℕ RedoErr → Type 0
HasStoreCause old new (Ok count) = new ≡ old
HasStoreCause old new (Err redoing.Memory) = new ≡ old
HasStoreCause old new (Err (redoing.Disk faults)) = ⊥
HasStoreCause old new (Err (redoing.Stopped stop)) = ⊥
HasStoreCause old new (Err (redoing.Store faults)) = RoseByOne old new × (faults ≡ new)

-- no put failed
abbrev pub NoPutFailed : Result ℕ RedoErr → Type 0
NoPutFailed (Ok count) = Unit {0}
NoPutFailed (Err redoing.Memory) = Unit {0}
NoPutFailed (Err (redoing.Disk faults)) = Unit {0}
NoPutFailed (Err (redoing.Stopped stop)) = Unit {0}
NoPutFailed (Err (redoing.Store faults)) = ⊥

-- ---- redo

-- what reading refuses, as redo tells it
abbrev pub unread : ReadErr → RedoErr
unread reading.Memory = redoing.Memory
unread (reading.Disk faults) = redoing.Disk faults
unread (reading.Stopped stop) = redoing.Stopped stop

-- all that the disk's log decodes to from a start on was put, so many images, and the log comes to
-- a clean end
pub record RedoesAll (size start : ℕ) (t : Tape) (old new : Option BlockMap) (count : ℕ)
    : Type 0 where
  pub found : List FoundRecord
  pub at : Lsn
  pub decodes : Decodes size (log_of t size) start None found (answers.End at)
  pub puts : PutsAll old new (puts_in found) count

-- all before a stop was put
pub record RedoesUpTo (size start : ℕ) (t : Tape) (old new : Option BlockMap) (stop : LogStop)
    : Type 0 where
  pub found : List FoundRecord
  pub decodes : Decodes size (log_of t size) start None found (answers.Stopped stop)
  pub put : new ≡ told_behind old (puts_in found)

-- a front was put of what the disk's log decodes to: that of some first records, and of first
-- blocks of the next
abbrev pub RedoesFront : ℕ → ℕ → Tape → Option BlockMap → Option BlockMap → Type 0
RedoesFront size start t old new =
    (found : List FoundRecord) (answer : Answer)
    → Decodes size (log_of t size) start None found answer → PutsSome old new (puts_in found)

-- what redo left of a store, by how it ended
abbrev pub IsRedo : ℕ → ℕ → Option BlockMap → Option BlockMap → Result ℕ RedoErr → Tape → Type 0
IsRedo size start old new (Ok count) t = RedoesAll size start t old new count
IsRedo size start old new (Err redoing.Memory) t = RedoesFront size start t old new
IsRedo size start old new (Err (redoing.Disk faults)) t = RedoesFront size start t old new
IsRedo size start old new (Err (redoing.Stopped stop)) t = RedoesUpTo size start t old new stop
IsRedo size start old new (Err (redoing.Store faults)) t = RedoesFront size start t old new

-- why redo ended so: the counts of faults of the disk and of the store, before and after
abbrev pub HasRedoCause : ℕ → ℕ → ℕ → ℕ → Result ℕ RedoErr → Type 0
HasRedoCause disk disk_after store store_after (Ok count) =
    (disk_after ≡ disk) × (store_after ≡ store)
HasRedoCause disk disk_after store store_after (Err redoing.Memory) =
    (disk_after ≡ disk) × (store_after ≡ store)
HasRedoCause disk disk_after store store_after (Err (redoing.Disk faults)) =
    (RoseByOne disk disk_after × (faults ≡ disk_after)) × (store_after ≡ store)
HasRedoCause disk disk_after store store_after (Err (redoing.Stopped stop)) =
    (disk_after ≡ disk) × (store_after ≡ store)
HasRedoCause disk disk_after store store_after (Err (redoing.Store faults)) =
    (disk_after ≡ disk) × (RoseByOne store store_after × (faults ≡ store_after))
