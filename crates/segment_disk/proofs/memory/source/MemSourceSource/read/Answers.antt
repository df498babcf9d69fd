use Rattle.std.proofs.Common.{arith}
use Rattle.std.proofs.lemmas.Grind.{common_steps}
use Rattle.segment_disk.proofs.Pieces.{taken_off, handed_on}
use Rattle.segment_disk.proofs.memory.source.MemSourceSource.read.Goals as goal

pub returns-clause-taken : goal.returns-clause-taken
returns-clause-taken c = taken_off c.args.self.now.bytes.items c.args.self.now.taken c.min-count.result c.copy_from_slice.new.self _ (grind (arith, common_steps)) (grind (arith, common_steps))

pub returns-clause-handed : goal.returns-clause-handed
returns-clause-handed c = handed_on c.args.self.now.bytes.items c.args.self.now.taken c.min-count.result c.copy_from_slice.new.self _ (grind (arith, common_steps)) (grind (arith, common_steps))
