-- What a log leaves that was opened on a disk and closed.
use Rattle.std.specs.Prelude.{◌≡◌, ℕ, ◌≤◌, List, Option, Some}
use Rattle.segment_disk.specs.Tape.{Tape}
use Rattle.flush_core.specs.Pages.{HoldsNothing}
use Rattle.wal_page.specs.Order.{Entry, end_position}
use Rattle.machine_state.specs.declared.setup.Setup.{Setup}
use Rattle.machine_state.specs.Words.{Opening, end_form, flushed_word}
use Rattle.machine_state.specs.Views.{FlushPromise, View}
use Rattle.wal_rule.specs.declared.pass.Pass.{Pass}
use Rattle.wal_rule.specs.Passes.{view_of_pass}
use Rattle.run_laws.specs.Closed.{IsClosedOn, WasPromised}
use Rattle.run_laws.specs.Rising.{LogsAreOfOrder}
use Rattle.run_laws.specs.Surviving.{LeavesFronts}
use Rattle.run_laws.specs.Timely.{IsTimely}
use Rattle.run_laws.specs.Whole.{HoldsWhole}
use Rattle.wal_log.specs.declared.closing.Closed.{Closed}
use Rattle.wal_log.specs.declared.wal.Wal.{Wal}
use Rattle.wal_log.specs.Closing.{ClosesLog}
use Rattle.wal_log.specs.Logs.{opening_of_log, setup_of_log}
use Rattle.wal_log.specs.Opening.{IsOpened}

-- the address at which an order ends
abbrev pub end_of_order : Setup → List Entry → ℕ
end_of_order setup order = end_form setup (end_position setup.seg_size order)

-- a log with this order was closed on a disk with this tape, by a pass that knew this, and keeps
-- what it promised
pub record KeepsPromises (opening : Opening) (order : List Entry) (t : Tape) (v : View) : Type 0
  where
    pub closed : IsClosedOn opening order t v
    -- each pass's log is its part of the order
    pub logs : LogsAreOfOrder opening order v.reserving
    -- what a crash leaves reads as a front of the order, with all that was promised by then
    pub fronts : LeavesFronts opening order t v
    -- each promise came before anything was written that was reserved behind it
    pub timely : (entries : List Entry) (p : FlushPromise) → WasPromised v entries p
        → IsTimely opening order t entries p
    -- where all is flushed, or was promised, the disk holds all for good
    pub flushed : end_of_order opening.setup order ≤ flushed_word closed.words
        → HoldsWhole (opening.setup).seg_size t order
    pub promised : (entries : List Entry) (p : FlushPromise) → WasPromised v entries p
        → end_of_order opening.setup order ≤ p.upto
        → HoldsWhole (opening.setup).seg_size t order

module _ {D : Type 0} (tape : D → Option Tape) where
  -- a log that was opened on a disk leaves this order, which ends where its closing told; each
  -- pass's log is its part of the order; and where the disk told that it held nothing, the log
  -- keeps what was promised
  pub record LeavesOrder (disk : D) (wal : Wal D) (pass : Pass) (closed : Closed D)
      (order : List Entry) : Type 0 where
    pub end_is : closed.end.0 ≡ end_of_order (setup_of_log wal) order
    pub logs : LogsAreOfOrder (opening_of_log wal) order (view_of_pass pass).reserving
    pub keeps : HoldsNothing (tape disk) → (t : Tape) → tape closed.disk ≡ Some t
        → KeepsPromises (opening_of_log wal) order t (view_of_pass pass)

  -- a log was opened on a disk with this setup, and this pass closed it
  pub record IsClosedFrom (moment faults : D → ℕ) (setup : Setup) (disk : D) (wal : Wal D)
      (pass : Pass) (closed : Closed D) : Type 0 where
    pub first : Pass
    pub opened : IsOpened tape moment faults setup disk wal first
    pub closes : ClosesLog tape moment faults wal pass closed
