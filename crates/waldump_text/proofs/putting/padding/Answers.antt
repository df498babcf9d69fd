use Rattle.std.proofs.Common.{arith}
use Rattle.std.proofs.lemmas.List.{take-replicate}
use Rattle.waldump_text.proofs.putting.padding.Goals as goal

pub returns : goal.returns
returns c = rw c.saturating_sub.ensures (take-replicate _ 16 32 (omega arith))
