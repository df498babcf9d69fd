use Rattle.durable_map.specs.Sharing.{IsSharedMap}
use Rattle.client_tests.proofs.map_lanes.lanes_answer_in_their_order.Given as goal

abbrev pub invariant-loop-round : goal.invariant-loop-round
invariant-loop-round g l = IsSharedMap l.map
