-- The puts of a redo, as calls of the store.
use Rattle.std.specs.Prelude.{◌≡◌, ℕ, ◌⊎◌, List, [], ◌∷◌, ◌++◌, map, None, Result, Ok, Err}
use Rattle.segment_disk.specs.Tape.{Tape}
use Rattle.wal_reader.specs.Cache.{log_of}
use Rattle.wal_reader.specs.Decodes.{Decodes}
use Rattle.wal_reader.specs.declared.found.FoundRecord.{FoundRecord}
use Rattle.wal_reader.specs.declared.found.Answer.{Answer}
use Rattle.wal_redo.specs.declared.block_id.BlockId.{BlockId}
use Rattle.wal_redo.specs.declared.blocks.PutErr.{PutErr}
use Rattle.wal_redo.specs.declared.blocks.PutErr.TheVariants as putting
use Rattle.wal_redo.specs.declared.redoing.RedoErr.{RedoErr}
use Rattle.wal_redo.specs.declared.redoing.RedoErr.TheVariants as redoing
use Rattle.wal_redo.specs.BlockMap.{PagePut}
use Rattle.wal_redo.specs.Images.{puts_in}

-- a call of a store's put: the block and the page, and how it was answered
pub record PutCall : Type 0 where
  pub put : PagePut
  pub answer : Result Unit PutErr

-- calls, with one more behind them
abbrev pub with_put_call : List PutCall → BlockId → List ℕ → Result Unit PutErr → List PutCall
with_put_call calls block page answer =
    calls ++ record { put = record { block = block; page = page }; answer = answer } ∷ []

-- a call that was answered Ok
abbrev pub done_call : PagePut → PutCall
done_call put = record { put = put; answer = Ok tt }

-- of these puts each was called once, in their order, and answered Ok; nothing else was called
abbrev pub CallsAll : List PutCall → List PutCall → List PagePut → Type 0
CallsAll old new puts = new ≡ old ++ map done_call puts

-- so were those of a front of them, and nothing else was called
pub record CallsFront (old new : List PutCall) (puts : List PagePut) : Type 0 where
  pub front : List PagePut
  pub rest : List PagePut
  pub parts : puts ≡ front ++ rest
  pub called : CallsAll old new front

-- so were those before one that was called once, behind them, and refused; nothing else was called
pub record CallsUpTo (old new : List PutCall) (error : PutErr) (puts : List PagePut) : Type 0 where
  pub front : List PagePut
  pub refused : PagePut
  pub rest : List PagePut
  pub parts : puts ≡ front ++ refused ∷ rest
  pub between : List PutCall
  pub called : CallsAll old between front
  pub last : new ≡ with_put_call between refused.block refused.page (Err error)

-- the calls of puts that are made one behind another, by how they ended
abbrev pub CallsPuts : List PutCall → List PutCall → List PagePut → Result ℕ RedoErr → Type 0
CallsPuts old new puts (Ok count) = CallsAll old new puts
CallsPuts old new puts (Err redoing.Memory) = CallsUpTo old new putting.Memory puts
CallsPuts old new puts (Err (redoing.Disk faults)) = ⊥
CallsPuts old new puts (Err (redoing.Stopped stop)) = ⊥
CallsPuts old new puts (Err (redoing.Store faults)) = CallsUpTo old new putting.Failed puts

-- the calls of a redo that is to make these puts, by how it ended: where memory was wanting, it was
-- for reading on, or for the store
abbrev pub CallsRedo : List PutCall → List PutCall → Result ℕ RedoErr → List PagePut → Type 0
CallsRedo old new (Ok count) puts = CallsAll old new puts
CallsRedo old new (Err redoing.Memory) puts =
    CallsFront old new puts ⊎ CallsUpTo old new putting.Memory puts
CallsRedo old new (Err (redoing.Disk faults)) puts = CallsFront old new puts
CallsRedo old new (Err (redoing.Stopped stop)) puts = CallsAll old new puts
CallsRedo old new (Err (redoing.Store faults)) puts = CallsUpTo old new putting.Failed puts

-- so of the images that a disk's log puts, from a start on: all that are before its end or stop
abbrev pub IsCalled : ℕ → ℕ → List PutCall → List PutCall → Result ℕ RedoErr → Tape → Type 0
IsCalled size start old new result t =
    (found : List FoundRecord) (answer : Answer)
    → Decodes size (log_of t size) start None found answer
    → CallsRedo old new result (puts_in found)
