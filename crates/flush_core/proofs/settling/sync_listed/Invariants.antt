-- The segments so far are synced.
use Rattle.std.proofs.Common.{◌≡◌, ◌+◌, take}
use Rattle.flush_core.specs.Settled.{MakesCalls, sync_calls}
use Rattle.flush_core.proofs.settling.sync_listed.Given as goal

abbrev pub invariant-loop-segment : goal.invariant-loop-segment
invariant-loop-segment g l = record {
  made : MakesCalls (g.D.Disk.tape l.fn.disk) (g.D.Disk.tape l.disk) (g.D.Disk.moment l.fn.disk) (g.D.Disk.moment l.disk) (λ _. sync_calls l.geometry (take l.segment-index l.segments));
  counted : g.D.Disk.moment l.disk ≡ g.D.Disk.moment l.fn.disk + l.segment-index;
  faults : g.D.Disk.faults l.disk ≡ g.D.Disk.faults l.fn.disk;
}
