use Rattle.std.proofs.Common.{◌∙◌}
use Rattle.wal_stream.proofs.PutLaws.{none_read}
use Rattle.wal_stream.proofs.frames.read_page.Goals as goal

pub returns-then-not-branch-clause-reads : goal.returns-then-not-branch-clause-reads
returns-then-not-branch-clause-reads g c =
    none_read (g.D.Disk.tape c.args.disk.now) c.args.geometry c.args.number c.from-pages.result c.in_ok-read_page.field-0 _ (c.from-pages.ensures ∙ c.pages.ensures.value) c.in_ok-read_page.ensures.reads c.if-not-branch.true
