-- What a log leaves that is closed.
use Rattle.std.specs.Prelude.{◌≡◌, ℕ, Option}
use Rattle.segment_disk.specs.Tape.{Tape}
use Rattle.machine_state.specs.Words.{end_form}
use Rattle.wal_rule.specs.declared.pass.Pass.{Pass}
use Rattle.wal_rule.specs.declared.writer.LogWriter.{LogWriter}
use Rattle.wal_rule.specs.Closing.{ClosesWith}
use Rattle.wal_rule.specs.Passes.{view_of_pass}
use Rattle.wal_rule.specs.Slotted.{slot_disk, slot_plain}
use Rattle.flush_core.specs.Calls.{maybe}
use Rattle.wal_rule.specs.Tables.{began_of_table}
use Rattle.wal_log.specs.declared.closing.Closed.{Closed}
use Rattle.wal_log.specs.declared.wal.Wal.{Wal}
use Rattle.wal_log.specs.Logs.{opening_of_log, setup_of_log, table_of}

-- the disk, the end of the order, and the fault that the writer met, in a last state of the machine
-- in which the pass was the only one, and about nothing
pub record ClosesLog {D : Type 0} (tape : D → Option Tape) (moment faults : D → ℕ) (wal : Wal D)
    (pass : Pass) (closed : Closed D) : Type 0 where
  pub writer : LogWriter D
  pub position : ℕ
  pub disk_is : slot_disk writer ≡ closed.disk
  pub closes : ClosesWith tape moment faults (began_of_table tape (table_of wal))
      (opening_of_log wal) (view_of_pass pass) writer position
  pub end_is : closed.end.0 ≡ end_form (setup_of_log wal) position
  pub down_is : maybe closed.down ≡ (slot_plain tape moment writer).fault
