use Rattle.run_backends.proofs.BeginLanes.{AreBeginning}
use Rattle.run_backends.proofs.lanes.begin_lanes.Given as goal

-- lanes were begun for the first backends, and there is enough for the others
abbrev pub invariant-loop-backend : goal.invariant-loop-backend
invariant-loop-backend g l =
    AreBeginning l.log l.fn.first l.fn.backends.items l.backend-iterator.rest.items l.lanes l.first
