-- One call of the device by a seat that has the writer in hand. The call comes first, and then a
-- step of the table that tells the view of it; between (`IsCalled`) the view still keeps the writer
-- as it was before the call, and nobody else can reach that.
use Rattle.std.specs.Prelude.{◌≡◌, ℕ, ◌/◌, ◌^◌, ◌<◌, List, [], ◌∷◌, Result}
use mathlib.Core.Option.{none}
use Rattle.segment_disk.specs.Tape.{Tape, create_call, sync_call, write_call}
use Rattle.flush_core.specs.declared.writer.DiskFault.{DiskFault}
use Rattle.machine_state.specs.Words.{Opening}
use Rattle.machine_state.specs.Views.{Plain, Lent, View}
use Rattle.machine_state.specs.Moves.{CallOutcome, after_create, after_sync, after_write}
use Rattle.machine_state.specs.Steps.{StepKind, create, sync, write, view_behind}
use Rattle.wal_rule.specs.declared.writer.LogWriter.{LogWriter}
use Rattle.wal_rule.specs.Slotted.{CallEnds, EndsAs}
use Rattle.wal_rule.specs.Ruled.{HasInHand}

-- a call, but for how it ends: a segment is made, a page is written up to an address, a segment is
-- synced
pub data DeviceCall : Type 0 where
  creates : ℕ → DeviceCall
  writes : (segment page upto : ℕ) → List ℕ → DeviceCall
  syncs : ℕ → DeviceCall

-- the machine's step
abbrev pub step_of_call : DeviceCall → CallOutcome → StepKind
step_of_call (creates segment) outcome = create segment outcome
step_of_call (writes segment page upto bytes) outcome = write segment page upto bytes outcome
step_of_call (syncs segment) outcome = sync segment outcome

-- the writer behind it, where segments have this size
abbrev pub writer_behind : ℕ → DeviceCall → CallOutcome → Plain → Plain
writer_behind size (creates segment) outcome =
    after_create segment (create_call size segment) outcome
writer_behind size (writes segment page upto bytes) outcome =
    after_write segment upto (write_call size segment page bytes) outcome
writer_behind size (syncs segment) outcome = after_sync (sync_call size segment) outcome

-- the segment of a write has an address, where segments have this size
abbrev pub IsWriteLow : ℕ → DeviceCall → Type 0
IsWriteLow size (creates segment) = Unit {0}
IsWriteLow size (writes segment page upto bytes) = segment < 2 ^ 64 / size
IsWriteLow size (syncs segment) = Unit {0}

module _ {D : Type 0} (tape : D → Rattle.std.specs.Prelude.Option Tape) (moment faults : D → ℕ)
    (began : Rattle.std.specs.Prelude.Option Tape) (opening : Opening) (call : DeviceCall)
    (result : Result Unit DiskFault)
  where
    -- the call is made, and the view does not tell it yet
    pub record IsCalled (me : View × List (ℕ × LogWriter D)) : Type 0 where
      pub lent : Lent
      pub before : LogWriter D
      pub writer : LogWriter D
      pub had : HasInHand tape moment faults began opening (me.0, (0, before) ∷ []) lent before
      pub slot : me.1 ≡ (0, writer) ∷ []
      pub ends : CallEnds tape moment faults before writer result
          (writer_behind (opening.setup).seg_size call)
      pub low : IsWriteLow (opening.setup).seg_size call

    -- a call ended: the seat has the writer in hand, and knows of the call what the machine says
    pub record DeviceCallEnds (old : View) (new : View × List (ℕ × LogWriter D)) : Type 0
      where
        pub outcome : CallOutcome
        pub ends : EndsAs result outcome
        pub view_is : new.0 ≡ view_behind old (step_of_call call outcome) 0 none
        pub lent : Lent
        pub writer : LogWriter D
        pub in_hand : HasInHand tape moment faults began opening new lent writer
