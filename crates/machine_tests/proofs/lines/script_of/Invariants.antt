use Rattle.std.proofs.Common.{All}
use Rattle.wal_core.specs.Lines.{InsertsNoSwitch}
use Rattle.machine_tests.proofs.lines.script_of.Given as goal

abbrev pub invariant-loop-planned : goal.invariant-loop-planned
invariant-loop-planned l = All InsertsNoSwitch l.lines.items
