use Rattle.durable_map.proofs.LaneLaws.{IsJoining}
use Rattle.durable_map.proofs.sharing.join_lanes.Given as goal

-- the pass has the logs of the lanes that it took in
abbrev pub invariant-loop-lane : goal.invariant-loop-lane
invariant-loop-lane g l =
    IsJoining l.log l.fn.lanes.items l.pass l.lane-iterator.rest.items
