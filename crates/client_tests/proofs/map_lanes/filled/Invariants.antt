use Rattle.durable_map.specs.Stores.{IsOpenMap}
use Rattle.client_tests.proofs.map_lanes.filled.Given as goal

abbrev pub invariant-loop-key : goal.invariant-loop-key
invariant-loop-key g l = IsOpenMap l.map
