use Rattle.backend_cli.specs.Outside.{source_view}
use Rattle.backend_cli.proofs.program.obey.Goals as goal

pub returns-in-Help-clause-obeys : goal.returns-in-Help-clause-obeys
returns-in-Help-clause-obeys g c =
    rw (c.in-Help.is, ← c.help_text.ensures) (c.explain.ensures.explained (source_view g.S.Source.left g.S.Source.handed g.S.Source.ends_told g.S.Source.faults c.args.script.now))

pub returns-in-Version-clause-obeys : goal.returns-in-Version-clause-obeys
returns-in-Version-clause-obeys g c =
    rw (c.in-Version.is, ← c.version_text.ensures) (c.explain-in-Version.ensures.explained (source_view g.S.Source.left g.S.Source.handed g.S.Source.ends_told g.S.Source.faults c.args.script.now))
