use Rattle.std.proofs.Common.{All, sym, subst}
use Rattle.std.proofs.lemmas.List.Elements.{All-push}
use Rattle.wal_core.specs.Lines.{InsertsNoSwitch}
use Rattle.bench_log.proofs.turns.lines.script.Goals as goal

pub loop-number-preserved : goal.loop-number-preserved
loop-number-preserved c = subst (All InsertsNoSwitch) (sym c.in_ok-push.ensures.items)
    (All-push InsertsNoSwitch c.loop-number.lines.items c.in_ok-line.field-0 c.loop-number.invariant
    c.in_ok-line.ensures)
