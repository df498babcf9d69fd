-- The pages so far are cleared.
use Rattle.std.proofs.Common.{◌≡◌, ◌+◌, take, IfSome}
use Rattle.std.specs.List.{flat_map}
use Rattle.segment_disk.specs.Tape.{state_now}
use Rattle.flush_core.specs.PlannedPages.{AreToClear, planned_clears}
use Rattle.flush_core.specs.Settled.{MakesCalls}
use Rattle.flush_core.proofs.settling.clear_pages.Given as goal

abbrev pub invariant-loop-page : goal.invariant-loop-page
invariant-loop-page g l = record {
  made : IfSome (g.D.Disk.tape l.fn.disk) (λ t. AreToClear l.geometry (state_now t) l.pages)
      → MakesCalls (g.D.Disk.tape l.fn.disk) (g.D.Disk.tape l.disk) (g.D.Disk.moment l.fn.disk) (g.D.Disk.moment l.disk) (λ state. flat_map (planned_clears l.geometry state) (take l.page-index l.pages));
  counted : g.D.Disk.moment l.disk ≡ g.D.Disk.moment l.fn.disk + l.page-index;
  faults : g.D.Disk.faults l.disk ≡ g.D.Disk.faults l.fn.disk;
}
