use Rattle.wal_rule.specs.Tables.{began_of_table}
use Rattle.wal_rule.proofs.table.LogTable.open.Given as goal

abbrev pub ghosts-begin : goal.ghosts-begin
ghosts-begin g a = record { began = began_of_table g.D.Disk.tape a.self }
