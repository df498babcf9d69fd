use Rattle.std.proofs.Common.{All}
use Rattle.wal_core.specs.Lines.{InsertsNoSwitch}
use Rattle.bench_log.proofs.turns.lines.scripts.Given as goal

abbrev pub invariant-loop : goal.invariant-loop
invariant-loop l = All (All InsertsNoSwitch) l.scripts.items
