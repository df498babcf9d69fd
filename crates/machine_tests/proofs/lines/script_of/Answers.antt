use Rattle.std.proofs.Common.{All, sym, subst}
use Rattle.std.proofs.lemmas.List.Elements.{All-push}
use Rattle.wal_core.specs.Lines.{InsertsNoSwitch}
use Rattle.machine_tests.proofs.lines.script_of.Goals as goal

pub loop-planned-preserved : goal.loop-planned-preserved
loop-planned-preserved c = subst (All InsertsNoSwitch) (sym c.in_ok-push.ensures.items)
    (All-push InsertsNoSwitch c.loop-planned.lines.items c.in_ok-line.field-0
    c.loop-planned.invariant c.in_ok-line.ensures)
