-- The pages so far are read, and those to be cleared are listed.
use Rattle.std.proofs.Common.{◌≡◌, ◌-◌, ◌≤◌, ◌++◌, All, IfSome}
use Rattle.segment_disk.specs.Tape.{IsUncalled, state_now}
use Rattle.flush_core.specs.PlannedPages.{IsPageOf, planned_from}
use Rattle.flush_core.proofs.planning.plan_segment.Given as goal

abbrev pub invariant-loop-number : goal.invariant-loop-number
invariant-loop-number g l = record {
  low : l.first ≤ l.number;
  planned : IfSome (g.D.Disk.tape l.fn.disk) (λ t. l.pages.items ≡ l.fn.pages.items ++ planned_from l.geometry l.segment l.kept (state_now t) l.first (l.number - l.first));
  bound : All (IsPageOf l.geometry) l.pages.items;
  uncalled : IsUncalled g.D.Disk.tape g.D.Disk.moment l.fn.disk l.disk;
  faults : g.D.Disk.faults l.disk ≡ g.D.Disk.faults l.fn.disk;
}
