use Rattle.durable_map.specs.Sharing.{IsSharedMap}
use Rattle.pgmap.proofs.sharing.tell_all.Given as goal

abbrev pub invariant-loop-number : goal.invariant-loop-number
invariant-loop-number g l = IsSharedMap l.map
