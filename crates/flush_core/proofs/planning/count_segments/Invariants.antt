-- The segments so far are there, and nothing was called.
use Rattle.std.proofs.Common.{◌≡◌, ◌-◌, IfSome}
use Rattle.segment_disk.specs.Tape.{IsUncalled, state_now}
use Rattle.flush_core.specs.Settled.{AreThere}
use Rattle.flush_core.proofs.planning.count_segments.Given as goal

abbrev pub invariant-loop-segment : goal.invariant-loop-segment
invariant-loop-segment g l = record {
  there : IfSome (g.D.Disk.tape l.fn.disk) (λ t. AreThere (state_now t) (l.segment - 1));
  uncalled : IsUncalled g.D.Disk.tape g.D.Disk.moment l.fn.disk l.disk;
  faults : g.D.Disk.faults l.disk ≡ g.D.Disk.faults l.fn.disk;
}
