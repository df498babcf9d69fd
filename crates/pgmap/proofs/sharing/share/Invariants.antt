use Rattle.durable_map.specs.Sharing.{IsSharedMap}
use Rattle.pgmap.proofs.sharing.share.Given as goal

abbrev pub invariant-loop-index : goal.invariant-loop-index
invariant-loop-index g l = IsSharedMap l.map
