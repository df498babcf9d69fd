-- What is made ready is played; what is not touches nothing.
use Rattle.std.proofs.Common.{refl, subst, sym}
use Rattle.backend_cli.specs.Appending.{AppendHolds}
use Rattle.backend_cli.specs.Outside.{Outside, outside_of, source_view}
use Rattle.backend_cli.proofs.AppendUnopened.{unprepared_holds}
use Rattle.backend_cli.proofs.append.append.Goals as goal

pub returns-in-Ok : goal.returns-in-Ok
returns-in-Ok g c =
    let view = source_view g.S.Source.left g.S.Source.handed g.S.Source.ends_told
    g.S.Source.faults in
    let ready = c.in-Ok.ensures in
    c.append_prepared.ensures (view c.args.source.now) (view c.prepare.new.source) ready.0 ready.1
    ready.2

pub returns : goal.returns
returns g c =
    let view = source_view g.S.Source.left g.S.Source.handed g.S.Source.ends_told
    g.S.Source.faults in
    let out = c.args.out.now in
    let outside : Outside = outside_of (view c.args.source.now) (view c.prepare.new.source)
    g.D.Disk.tape g.D.Disk.moment g.D.Disk.faults c.args.disk c.args.disk g.O.Sink.taken
    g.O.Sink.faults out out in
    subst (AppendHolds outside c.args.options.now c.in-Err.outcome) (sym c.none.ensures)
    (unprepared_holds c.args.options.now outside c.in-Err.outcome c.in-Err.ensures refl
    (record { tape_same = refl; moment_same = refl; nothing_printed = refl; sink_faults_same = refl }))
