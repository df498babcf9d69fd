use Rattle.std.proofs.Common.{All}
use Rattle.wal_core.specs.Lines.{InsertsNoSwitch}
use Rattle.machine_tests.proofs.lines.scripts_of.Given as goal

abbrev pub invariant-loop-plan : goal.invariant-loop-plan
invariant-loop-plan l = All (All InsertsNoSwitch) l.scripts.items
