-- There is room for the backends that were read.
use Rattle.backend_cli.proofs.RunBackends.{prepared_for}
use Rattle.backend_cli.proofs.run.prepare.Goals as goal

pub returns-in-Ok : goal.returns-in-Ok
returns-in-Ok g c =
    let read = c.in_ok-backends.ensures in
    (read.0, read.1, prepared_for c.args.writer _ _ read.0 _ _ read.1 read.2 c.in-Ok.ensures)
