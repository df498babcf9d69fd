-- The writer in the table's slot, as the machine sees it, and what one device call leaves of it.
use Rattle.std.specs.Prelude.{◌≡◌, ℕ, ◌/◌, ◌^◌, ◌<◌, ◌≤◌, Bool, List, ◌++◌, Result, MatchResult, IfErr, IfSome, IsSome, Some, None}
use mathlib.Core.Option.{Option, none, some}
use Rattle.segment_disk.specs.declared.disk.Call.{Call}
use Rattle.segment_disk.specs.Cause.{Rose}
use Rattle.segment_disk.specs.Tape.{DiskState, Tape, empty_state}
use Rattle.flush_core.specs.Calls.{maybe}
use Rattle.flush_core.specs.declared.writer.DiskFault.{DiskFault}
use Rattle.machine_state.specs.Words.{Opening}
use Rattle.machine_state.specs.Suited.{tape_from}
use Rattle.machine_state.specs.Views.{Plain}
use Rattle.machine_state.specs.Moves.{CallOutcome, Done, Failed}
use Rattle.wal_rule.specs.declared.writer.LogWriter.{LogWriter}

-- its disk, and the size of its segments
abbrev pub slot_disk : {D : Type 0} → LogWriter D → D
slot_disk w = w.disk

abbrev pub slot_segment_size : {D : Type 0} → LogWriter D → ℕ
slot_segment_size w = w.geometry

-- the calls on a tape
abbrev pub calls_of : Rattle.std.specs.Prelude.Option Tape
    → Rattle.std.specs.Prelude.Option (List Call)
calls_of None = None
calls_of (Some t) = Some t.calls

-- the writer as the machine sees it
abbrev pub slot_plain : {D : Type 0} → (D → Rattle.std.specs.Prelude.Option Tape) → (D → ℕ)
    → LogWriter D → Plain
slot_plain tape moment w = record {
  calls = calls_of (tape w.disk);
  moment = moment w.disk;
  written = w.written;
  made = w.made;
  waiting = maybe w.waiting;
  fault = maybe w.fault;
}

-- a writer that has met no fault, and of which nothing waits for a sync: on a disk with this tape,
-- at this moment, with the log written up to an address in the segments up to the last one made
abbrev pub resting_plain : Rattle.std.specs.Prelude.Option Tape → (moment written made : ℕ) → Plain
resting_plain t moment written made = record {
  calls = calls_of t;
  moment = moment;
  written = written;
  made = made;
  waiting = none;
  fault = none;
}

-- what a tape says that the disk held at first; no segment where none is told
abbrev pub first_on : Rattle.std.specs.Prelude.Option Tape → DiskState
first_on None = empty_state
first_on (Some t) = t.at_first

-- the calls on a tape are those on another one, which is told, and some behind them
abbrev pub GoesOnFrom : Rattle.std.specs.Prelude.Option Tape → Tape → Type 0
GoesOnFrom None t = ⊥
GoesOnFrom (Some b) t = (later : List Call) × (t.calls ≡ b.calls ++ later)

-- a call ended so
abbrev pub EndsAs : Result Unit DiskFault → CallOutcome → Type 0
EndsAs result outcome = MatchResult result (λ _. outcome ≡ Done)
    (λ e. (counted : Option Bool) × (outcome ≡ Failed e.faults counted))

-- a device call ended: the writer is as the machine's call by this outcome leaves it, its disk held
-- at first what it held before, and the disk's count of faults is as before, or the one told
pub record CallEnds {D : Type 0} (tape : D → Rattle.std.specs.Prelude.Option Tape)
    (moment faults : D → ℕ) (old new : LogWriter D) (result : Result Unit DiskFault)
    (behind_call : CallOutcome → Plain → Plain) : Type 0 where
  pub outcome : CallOutcome
  pub ends : EndsAs result outcome
  pub plain_is : slot_plain tape moment new ≡ behind_call outcome (slot_plain tape moment old)
  pub tape_is : tape (slot_disk new)
      ≡ tape_from (first_on (tape (slot_disk old))) (calls_of (tape (slot_disk new)))
  pub same_size : slot_segment_size new ≡ slot_segment_size old
  pub rises : faults (slot_disk old) ≤ faults (slot_disk new)
  pub counts : MatchResult result (λ _. faults (slot_disk new) ≡ faults (slot_disk old))
      (λ e. e.faults ≡ faults (slot_disk new))
  pub fault : IfErr result (λ e. Rose (faults (slot_disk old)) e.faults)

-- the writer of a log: it makes segments of the log's size, on a disk whose tape goes on from this
-- one, that of the opening, and that has failed no less often than then: just as often where the
-- writer has met no fault, and else as often as the fault that it keeps; and the segment that waits
-- has an address
pub record IsOfLog {D : Type 0} (tape : D → Rattle.std.specs.Prelude.Option Tape)
    (faults : D → ℕ) (began : Rattle.std.specs.Prelude.Option Tape) (opening : Opening)
    (w : LogWriter D) : Type 0 where
  pub size_is : slot_segment_size w ≡ (opening.setup).seg_size
  pub on_first : IfSome (tape (slot_disk w)) (λ t. t.at_first ≡ first_on began)
  pub goes_on : IfSome (tape (slot_disk w)) (GoesOnFrom began)
  pub told : IsSome began → IsSome (tape (slot_disk w))
  pub failed : opening.faults ≤ faults (slot_disk w)
  pub up : maybe w.fault ≡ none → faults (slot_disk w) ≡ opening.faults
  pub down : (f : ℕ) → maybe w.fault ≡ some f → f ≡ faults (slot_disk w)
  pub waits_low : (segment : ℕ) → maybe w.waiting ≡ some segment
      → segment < 2 ^ 64 / (opening.setup).seg_size
