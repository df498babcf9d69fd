-- What was written early, why a page was not, and what storing leaves.
use Rattle.std.specs.Prelude.{◌≡◌, ◌⊎◌, ℕ, ◌≤◌, List, Option, Result, nat_lt, if◌then◌else◌}
use Rattle.segment_disk.specs.Tape.{Tape}
use Rattle.flush_core.specs.Calls.{waiting_behind}
use Rattle.machine_state.specs.Moves.{with_hold}
use Rattle.machine_state.specs.Views.{Idle, Out, Plain, View}
use Rattle.wal_rule.specs.declared.seated.SeatedPass.{SeatedPass}
use Rattle.wal_rule.specs.SeatedPasses.{view_of}
use Rattle.insert_locks.specs.Watching.{HasFinished}
use Rattle.word_ring.specs.InHand.{lent_in, writer_in}
use Rattle.word_ring.specs.MadeCalls.{EndCalls, HasBrokenOff, HasCalled, calls_to_flush, calls_to_write}
use Rattle.wal_log.specs.declared.fault.Fault.TheVariants as faults
use Rattle.wal_log.specs.declared.turns.TurnErr.{TurnErr}
use Rattle.wal_log.specs.declared.turns.TurnErr.TheVariants as turns
use Rattle.wal_log.specs.declared.writing.WriteErr.{WriteErr}
use Rattle.wal_log.specs.declared.writing.WriteErr.TheVariants.{Fault, Behind, Turn}
use Rattle.wal_log.specs.Downs.{KnowsNoFault, MeetsFault}
use Rattle.wal_log.specs.Flushing.{MeetsHeldLock}
use Rattle.wal_log.specs.Hands.{HasAllStored, MeetsWriteTurn}
use Rattle.wal_log.specs.Standing.{KeepsPass}

-- the turn to write was not had
abbrev pub write_err_of_turn : TurnErr → WriteErr
write_err_of_turn (turns.Down n) = Fault (faults.Down n)
write_err_of_turn (turns.Taken turn) = Turn turn

-- why what is copied was not written up to an address
abbrev pub TellsWriteErr : ℕ → View → View → WriteErr → Type 0
TellsWriteErr upto old new (Fault fault) = MeetsFault old new fault
TellsWriteErr upto old new (Behind lock word) =
    MeetsHeldLock upto lock.0 word new × KnowsNoFault new
TellsWriteErr upto old new (Turn turn) = MeetsWriteTurn turn new × KnowsNoFault new

-- what was in the way, where the disk was not: the turn to write was taken, or a lock's holder had
-- not copied so far
abbrev pub IsHeldUp : ℕ → View → Type 0
IsHeldUp upto v = ((turn : ℕ) × MeetsWriteTurn turn v)
    ⊎ ((lock : ℕ) × (word : ℕ) × MeetsHeldLock upto lock word v)

-- a writer has written all up to a known address by the calls that this takes, each once and no
-- other; pages have some bytes. Then this waits for a sync
pub record WritesAll (size known : ℕ) (old new : Plain) : Type 0 where
  pub bytes : ℕ → List ℕ
  pub called : HasCalled (calls_to_write size known bytes old) old new
  pub waiting : new.waiting
      ≡ (if nat_lt old.written known then waiting_behind size known else old.waiting)

-- these calls broke off
pub record BreaksWriting (size known : ℕ) (old new : Plain) : Type 0 where
  pub bytes : ℕ → List ℕ
  pub broken : HasBrokenOff (calls_to_write size known bytes old) old new

-- a writer has written all up to a known address and synced what waited then, by the calls that
-- this takes, each once and no other; or they broke off. Pages have some bytes
abbrev pub FlushesAll : {T E : Type 0} → (size known : ℕ) → Result T E → (old new : Plain) → Type 0
FlushesAll size known result old new = (bytes : ℕ → List ℕ)
    × EndCalls (calls_to_flush size known bytes old) result old new

-- all below a bound is written, and stored as written. The bound is what a watch of the locks told,
-- which the pass began with the view `asked`: an address, or more, or the end of what was reserved.
-- As `writing` the pass had the writer in hand with all of that written, and then it gave back the
-- writer and the turn
pub record WritesCopied {D : Type 0} (tape : D → Option Tape) (moment faults : D → ℕ) (upto : ℕ)
    (old : View) (p : SeatedPass D) : Type 0 where
  pub bound : ℕ
  pub asked : View
  pub since : KeepsPass old asked
  pub watched : View
  pub finished : HasFinished upto bound asked watched
  pub writing : SeatedPass D
  pub keeps : KeepsPass watched (view_of writing)
  pub stored : HasAllStored tape moment faults writing
  pub written : bound ≤ (writer_in (view_of writing)).written
  pub same_table : p.table ≡ writing.table
  pub given_back : view_of p ≡ with_hold Idle (view_of writing)

-- what the writer in hand has written is stored; all else is as it was
abbrev pub stored_view : View → View
stored_view v =
    with_hold (Out (record (lent_in v.writing.hold) { stored = (writer_in v).written })) v
