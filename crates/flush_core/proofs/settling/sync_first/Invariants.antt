-- The segments so far are synced.
use Rattle.std.proofs.Common.{◌≡◌, ◌+◌}
use Rattle.std.specs.List.{range_with_len}
use Rattle.flush_core.specs.Settled.{MakesCalls, sync_calls}
use Rattle.flush_core.proofs.settling.sync_first.Given as goal

abbrev pub invariant-loop-before : goal.invariant-loop-before
invariant-loop-before g l = record {
  made : MakesCalls (g.D.Disk.tape l.fn.disk) (g.D.Disk.tape l.disk) (g.D.Disk.moment l.fn.disk) (g.D.Disk.moment l.disk) (λ _. sync_calls l.geometry (range_with_len 1 l.before));
  counted : g.D.Disk.moment l.disk ≡ g.D.Disk.moment l.fn.disk + l.before;
  faults : g.D.Disk.faults l.disk ≡ g.D.Disk.faults l.fn.disk;
}
