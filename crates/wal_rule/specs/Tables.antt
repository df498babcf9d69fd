-- What a table is of: the log that was opened so, on a disk that had this tape then.
use Rattle.std.specs.Prelude.{Option}
use Rattle.atomic_table.specs.Seated.{TableId}
use Rattle.atomic_table.specs.declared.shared.Seat.{Seat}
use Rattle.segment_disk.specs.Tape.{Tape}
use Rattle.machine_state.specs.Words.{Opening}
use Rattle.machine_state.specs.declared.setup.Setup.{Setup}
use Rattle.wal_rule.specs.declared.table.LogTable.{LogTable}
use Rattle.wal_rule.specs.declared.pass.Pass.{Pass}
use Rattle.wal_rule.specs.declared.writer.LogWriter.{LogWriter}
use Rattle.wal_rule.specs.Founded.{began_of_founding, founded_opening}
use Rattle.machine_state.specs.Views.{View}
use Rattle.wal_rule.specs.Passes.{IsPassOf}
use Rattle.wal_rule.specs.Stepping.{IsSeatOf}

-- which table it is, how its log was opened, and its disk's tape then
abbrev pub table_number : {D : Type 0} → LogTable D → TableId
table_number t = ((t.table).shared).table_id

abbrev pub opening_of_table : {D : Type 0} → LogTable D → Opening
opening_of_table t = founded_opening ((t.table).shared).key

abbrev pub began_of_table : {D : Type 0} → (D → Option Tape) → LogTable D → Option Tape
began_of_table tape t = began_of_founding tape ((t.table).shared).key

-- how it was set up
abbrev pub setup_of_table : {D : Type 0} → LogTable D → Setup
setup_of_table t = (opening_of_table t).setup

-- a live seat of it
abbrev pub IsSeatOn : {D : Type 0} → LogTable D → Seat (LogWriter D) View → Type 0
IsSeatOn t seat = IsSeatOf (table_number t) (opening_of_table t) seat

-- a pass of it
abbrev pub IsPassOn : {D : Type 0} → LogTable D → Pass → Type 0
IsPassOn t pass = IsPassOf (table_number t) (opening_of_table t) pass
