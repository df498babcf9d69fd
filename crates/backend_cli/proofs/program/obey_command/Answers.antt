use Rattle.backend_cli.specs.Outside.{source_view}
use Rattle.backend_cli.proofs.program.obey_command.Goals as goal

pub returns-in-Gen-clause-obeys : goal.returns-in-Gen-clause-obeys
returns-in-Gen-clause-obeys g c =
    rw c.in-Gen.is (c.run_generated.ensures.holds (source_view g.S.Source.left g.S.Source.handed
    g.S.Source.ends_told g.S.Source.faults c.args.script.now))
