-- A disk that holds nothing holds only what was put.
use Rattle.flush_core.proofs.LeftPuts.{HoldsOnly-nothing}
use Rattle.flush_core.proofs.writer.Writer.new.Goals as goal

pub returns-clause-only : goal.returns-clause-only
returns-clause-only g c = HoldsOnly-nothing c.args.geometry (g.D.Disk.moment c.args.disk) (g.D.Disk.tape c.args.disk) (g.met.D.Disk.counts c.args.disk)
