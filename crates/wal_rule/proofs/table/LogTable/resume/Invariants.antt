use Rattle.wal_rule.specs.Tables.{began_of_table}
use Rattle.wal_rule.proofs.table.LogTable.resume.Given as goal

abbrev pub ghosts-begin_settled : goal.ghosts-begin_settled
ghosts-begin_settled g a = record { began = began_of_table g.D.Disk.tape a.self }
