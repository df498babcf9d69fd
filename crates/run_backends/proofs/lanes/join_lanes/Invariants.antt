use Rattle.wal_rule.specs.Passes.{view_of_pass}
use Rattle.run_backends.proofs.JoinLanes.{AreJoining}
use Rattle.run_backends.proofs.lanes.join_lanes.Given as goal

-- the lanes in front were taken in, the others are left
abbrev pub invariant-loop-lane : goal.invariant-loop-lane
invariant-loop-lane g l = AreJoining l.log (view_of_pass l.fn.first) l.fn.lanes.items
    l.lane-iterator.rest.items l.first l.backends l.end.0
