-- What a seated pass with the writer in hand knows of the writer, and what calls leave of it.
use Rattle.std.specs.Prelude.{◌≡◌, ℕ, List, [], MatchResult, Result, None}
use mathlib.Core.Option.{none, some}
use Rattle.segment_disk.specs.declared.disk.Call.{Call}
use Rattle.segment_disk.specs.Tape.{Tape}
use Rattle.flush_core.specs.declared.writer.DiskFault.{DiskFault}
use Rattle.machine_state.specs.Views.{Hold, Idle, Lent, Out, Plain, Turned, View}
use Rattle.machine_state.specs.Moves.{with_hold}
use Rattle.wal_rule.specs.declared.seated.SeatedPass.{SeatedPass}
use Rattle.wal_rule.specs.declared.writer.LogWriter.{LogWriter}
use Rattle.wal_rule.specs.Ruled.{HasInHand}
use Rattle.wal_rule.specs.SeatedPasses.{HasView, began_of, opening_of, view_of}
use Rattle.flush_core.specs.Calls.{maybe}
use Rattle.word_ring.specs.MadeCalls.{EndCalls}
use Rattle.word_ring.specs.declared.reading.WriterNow.{WriterNow}

-- what a view keeps with the writer in hand; all is 0 where it has no writer
abbrev pub no_lent : Lent
no_lent = record {
  writer = record {
    calls = None;
    moment = 0;
    written = 0;
    made = 0;
    waiting = none;
    fault = none;
  };
  known = 0;
  staged = [];
  hard = 0;
  hard_moment = 0;
  stored = 0;
}

abbrev pub lent_in : Hold → Lent
lent_in Idle = no_lent
lent_in Turned = no_lent
lent_in (Out l) = l

-- the writer in hand, and the address below which all is known to be copied
abbrev pub writer_in : View → Plain
writer_in v = (lent_in (v.writing).hold).writer

abbrev pub known_copied : View → ℕ
known_copied v = (lent_in (v.writing).hold).known

-- these are the writer's numbers
pub record IsReadOff (writer : Plain) (now : WriterNow) : Type 0 where
  pub written : now.written ≡ writer.written
  pub made : now.made ≡ writer.made
  pub waiting : maybe now.waiting ≡ writer.waiting
  pub fault : maybe now.fault ≡ writer.fault
  pub moment : now.moment ≡ writer.moment

-- a pass is as it was
pub record IsSame {D : Type 0} (old new : SeatedPass D) : Type 0 where
  pub same_table : new.table ≡ old.table
  pub same_seat : new.seat ≡ old.seat

-- a view with this writer in hand and these words loaded; all else is as it was
abbrev pub hand_view : Plain → List (ℕ × ℕ) → View → View
hand_view writer staged v =
    with_hold (Out (record (lent_in (v.writing).hold) { writer = writer; staged = staged })) v

-- of a pass the writer in hand has changed, and what is loaded, and nothing else
pub record ChangesHand {D : Type 0} (old new : SeatedPass D) : Type 0 where
  pub same_table : new.table ≡ old.table
  pub writer : Plain
  pub staged : List (ℕ × ℕ)
  pub view_is : view_of new ≡ hand_view writer staged (view_of old)

module _ {D : Type 0} (tape : D → Rattle.std.specs.Prelude.Option Tape) (moment faults : D → ℕ)
  where
    -- a pass has the writer in hand, as its view keeps it
    abbrev pub HasHand : SeatedPass D → Type 0
    HasHand p = (l : Lent) × (w : LogWriter D)
        × HasInHand tape moment faults (began_of tape p) (opening_of p) (p.seat).me l w

    -- and no call of it has failed
    pub record IsReady (p : SeatedPass D) : Type 0 where
      pub hand : HasHand p
      pub up : (writer_in (view_of p)).fault ≡ none

    -- of a pass only what is loaded has changed: now it is these words. The writer is in hand still
    pub record Loads (staged : List (ℕ × ℕ)) (old new : SeatedPass D) : Type 0 where
      pub view : HasView (hand_view (writer_in (view_of old)) staged (view_of old)) old new
      pub hand : HasHand new

    -- these calls of the device ended: where all succeeded the writer stands so to the one before,
    -- else it keeps the fault that is told. It tells just these calls behind those before, or a
    -- front of them and the one that failed. However they ended, it is in hand still
    pub record CallsEnd (Stands : Plain → Plain → Type 0) (calls : List Call)
        (result : Result Unit DiskFault) (old new : SeatedPass D) : Type 0 where
      pub changes : ChangesHand old new
      pub called : EndCalls calls result (writer_in (view_of old)) (writer_in (view_of new))
      pub told : MatchResult result
          (λ _. Stands (writer_in (view_of old)) (writer_in (view_of new)))
          (λ e. (writer_in (view_of new)).fault ≡ some e.faults)
      pub hand : HasHand new
