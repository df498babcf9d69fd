use Rattle.std.proofs.Common.{All, sym, subst}
use Rattle.std.proofs.lemmas.List.Elements.{All-push}
use Rattle.wal_core.specs.Lines.{InsertsNoSwitch}
use Rattle.bench_log.proofs.turns.lines.scripts.Goals as goal

pub loop-preserved : goal.loop-preserved
loop-preserved c = subst (All (All InsertsNoSwitch)) (sym c.in_ok-push.ensures.items)
    (All-push (All InsertsNoSwitch) c.loop.scripts.items c.in_ok-script.field-0 c.loop.invariant
    c.in_ok-script.ensures)
