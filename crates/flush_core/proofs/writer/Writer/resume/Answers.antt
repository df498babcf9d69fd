-- A log that is there, and durable, is held and kept.
use Rattle.std.proofs.Common.{refl, arith}
use Rattle.flush_core.proofs.LeftPuts.{HoldsOnly-resumed, IsKept-synced}
use Rattle.flush_core.proofs.writer.Writer.resume.Goals as goal

pub returns-clause-kept : goal.returns-clause-kept
returns-clause-kept g c = λ pages there. IsKept-synced g.row.D.Denot g.D.Disk.tape g.D.Disk.moment g.met.D.Disk.counts _ c.args.written.0 (g.D.Disk.moment c.args.disk) pages refl (omega arith) refl
    (record { up = refl; begun = there.begun; reached = there.reached; made = there.made_as_far; put = there.put; holds = there.holds })

pub returns-clause-only : goal.returns-clause-only
returns-clause-only g c = λ pages there. HoldsOnly-resumed c.args.geometry c.args.written.0 c.args.made (g.D.Disk.moment c.args.disk) pages (g.D.Disk.tape c.args.disk) (g.met.D.Disk.counts c.args.disk) there
