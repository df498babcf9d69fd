use Rattle.machine_state.specs.Moves.{spent}
use Rattle.wal_rule.proofs.table.LogTable.join.Given as goal

abbrev pub ghosts-join_leaving : goal.ghosts-join_leaving
ghosts-join_leaving g a = record { left = spent a.other.me.0 }
