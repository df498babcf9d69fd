use Rattle.std.proofs.Common.{drop}
use Rattle.waldump_text.specs.Put.{HasPut}
use Rattle.machine_turns.specs.Doing.{Machine}
use Rattle.backend_cli.specs.ReplayBegun.{PlaysBackends}
use Rattle.backend_cli.specs.Replaying.{backend_lines}
use Rattle.backend_cli.proofs.replay.put_backends.Given as goal

-- the lines of the backends so far are put, and those of the backends that are left are not
abbrev pub invariant-loop-number : goal.invariant-loop-number
invariant-loop-number g l = (m : Machine) → PlaysBackends l.core l.line_counts m → HasPut (g.O.Sink.taken l.initial.out) (g.O.Sink.taken l.out) (g.O.Sink.faults l.initial.out) (g.O.Sink.faults l.out) (backend_lines 0 m.backends) (backend_lines l.number (drop l.number m.backends))
