-- A log that passes share, its passes between two calls, and what a call leaves of its pass.
use Rattle.std.specs.Prelude.{ℕ}
use Rattle.machine_state.specs.Words.{Opening}
use Rattle.machine_state.specs.declared.setup.Setup.{Setup}
use Rattle.wal_rule.specs.declared.pass.Pass.{Pass}
use Rattle.wal_rule.specs.declared.table.LogTable.{LogTable}
use Rattle.wal_rule.specs.Downs.{KnowsDown}
use Rattle.wal_rule.specs.Passes.{view_of_pass}
use Rattle.machine_state.specs.Steps.{IsResting}
use Rattle.wal_rule.specs.Tables.{IsPassOn, opening_of_table}
use Rattle.wal_log.specs.declared.wal.Wal.{Wal}
use Rattle.wal_log.specs.Standing.{KeepsPass}

abbrev pub table_of : {D : Type 0} → Wal D → LogTable D
table_of wal = wal.table

-- what was fixed when the log was opened
abbrev pub opening_of_log : {D : Type 0} → Wal D → Opening
opening_of_log wal = opening_of_table (table_of wal)

abbrev pub setup_of_log : {D : Type 0} → Wal D → Setup
setup_of_log wal = (opening_of_log wal).setup

-- a pass of a log, which is about nothing
pub record IsPassOfLog {D : Type 0} (wal : Wal D) (pass : Pass) : Type 0 where
  pub of_log : IsPassOn (table_of wal) pass
  pub rests : IsResting (view_of_pass pass)

-- however a call ends, its pass is about nothing, with its numbers and all that it had seen. Where
-- it knew of a failed disk, this is told of the count of faults
pub record LeavesPass {D : Type 0} (wal : Wal D) (told : ℕ → Type 0) (old new : Pass) : Type 0
  where
    pub keeps : KeepsPass (view_of_pass old) (view_of_pass new)
    pub pass : IsPassOfLog wal new
    pub down_again : (faults : ℕ) → KnowsDown faults (view_of_pass old) → told faults
