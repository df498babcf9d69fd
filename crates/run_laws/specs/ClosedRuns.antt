-- A run of several backends whose log was closed.
use Rattle.std.specs.Prelude.{◌≡◌, ◌⊎◌, ℕ, ◌^◌, ◌<◌, Contains, List, length, IfSome, Option}
use Rattle.segment_disk.specs.Tape.{Tape}
use Rattle.machine_state.specs.Words.{Opening}
use Rattle.machine_state.specs.Views.{FlushPromise, View}
use Rattle.wal_rule.specs.Closing.{ClosesWith}
use Rattle.wal_rule.specs.Downs.{KnowsDown}
use Rattle.wal_rule.specs.declared.writer.LogWriter.{LogWriter}
use Rattle.run_script.specs.Asked.{AskedLine}
use Rattle.run_laws.specs.declared.told.Told.{Told}
use Rattle.run_laws.specs.Ended.{HasTakenIn}
use Rattle.run_laws.specs.Reached.{ReachesAll}

-- a pass was promised all that the lines were told, or it knows of a failed disk
abbrev pub HasFlushedAll : ℕ → List (List Told) → View → Type 0
HasFlushedAll size lists v =
    ((p : FlushPromise) × Contains v.writing.promises p × ReachesAll size p.upto lists)
    ⊎ ((faults : ℕ) × KnowsDown faults v)

-- a log was closed by this pass, with this writer and this number of the position; the pass had
-- taken in those that played the script; `began` is the disk's tape at the opening
pub record IsRunClosed {D : Type 0} (tape : D → Option Tape) (moment faults : D → ℕ)
    (began : Option Tape) (opening : Opening) (v : View) (w : LogWriter D) (position : ℕ)
    (script : List (List AskedLine)) (lists : List (List Told)) : Type 0 where
  pub closes : ClosesWith tape moment faults began opening v w position
  pub taken : HasTakenIn opening v script lists
  -- a page tells the system id in eight bytes
  pub narrow : (opening.setup).sysid < 2 ^ 64
  pub counted : IfSome began (λ t. opening.moment ≡ length t.calls)
