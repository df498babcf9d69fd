use Rattle.std.proofs.Common.{All, sym, subst}
use Rattle.std.proofs.lemmas.List.Elements.{All-push}
use Rattle.wal_core.specs.Lines.{InsertsNoSwitch}
use Rattle.machine_tests.proofs.lines.scripts_of.Goals as goal

pub loop-plan-preserved : goal.loop-plan-preserved
loop-plan-preserved c = subst (All (All InsertsNoSwitch)) (sym c.in_ok-push.ensures.items)
    (All-push (All InsertsNoSwitch) c.loop-plan.scripts.items c.in_ok-script_of.field-0
    c.loop-plan.invariant c.in_ok-script_of.ensures)
