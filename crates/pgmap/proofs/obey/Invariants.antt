use Rattle.durable_map.specs.Stores.{IsOpenMap}
use Rattle.pgmap.proofs.obey.Given as goal

abbrev pub invariant-loop-index : goal.invariant-loop-index
invariant-loop-index g l = IsOpenMap l.map
