use Rattle.std.proofs.Common.{All}
use Rattle.wal_core.specs.Lines.{InsertsNoSwitch}
use Rattle.bench_log.proofs.turns.lines.script.Given as goal

abbrev pub invariant-loop-number : goal.invariant-loop-number
invariant-loop-number l = All InsertsNoSwitch l.lines.items
