use Rattle.durable_map.specs.Sharing.{IsSharedMap}
use Rattle.client_tests.proofs.map_lanes.ask_all.Given as goal

abbrev pub invariant-loop-number : goal.invariant-loop-number
invariant-loop-number l = IsSharedMap l.map
