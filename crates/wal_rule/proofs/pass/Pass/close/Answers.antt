use Rattle.std.proofs.Common.{ℕ, List, sym, subst}
use Rattle.machine_laws.specs.ClosedLogs.{HasAllNumbers}
use Rattle.wal_rule.specs.declared.writer.LogWriter.{LogWriter}
use Rattle.machine_state.specs.Views.{View}
use Rattle.wal_rule.specs.Tables.{opening_of_table}
use Rattle.wal_rule.proofs.pass.Pass.close.Goals as goal

pub close-requires-clause-seat : goal.close-requires-clause-seat
close-requires-clause-seat g c = c.take_seat-seat.ensures.seat _ _ c.requires.pass

pub close-requires-clause-numbers : goal.close-requires-clause-numbers
close-requires-clause-numbers g c =
    subst (λ (m : View × List (ℕ × LogWriter g.row.D.Denot)).
    HasAllNumbers ((opening_of_table c.args.table).setup).passes (m.0).reserving)
    (sym c.take_seat-seat.ensures.view) c.requires.numbers
