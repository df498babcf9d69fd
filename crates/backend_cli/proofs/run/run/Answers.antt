use Rattle.backend_cli.specs.Outside.{outside_of, source_view}
use Rattle.backend_cli.proofs.RunUnopened.{run_of_play}
use Rattle.backend_cli.proofs.run.run.Goals as goal

-- what was made ready is that of the script which the source handed out
pub returns-in-Ok-clause-holds : goal.returns-in-Ok-clause-holds
returns-in-Ok-clause-holds g c =
    let view = source_view g.S.Source.left g.S.Source.handed g.S.Source.ends_told
    g.S.Source.faults in
    let ready = c.in-Ok.ensures in
    let before = view c.args.source.now in
    let after = view c.prepare.new.source in
    let options = c.args.options.now in
    run_of_play (outside_of before after g.D.Disk.tape g.D.Disk.moment g.D.Disk.faults c.args.disk
    c.run_prepared.result.disk g.O.Sink.taken g.O.Sink.faults c.args.out.now
    c.run_prepared.new.out)
    options c.run_prepared.result.outcome ready.0 c.run_prepared.result.told ready.1
    (c.run_prepared.ensures.holds before after ready.0 ready.2)
