-- The segments so far are read.
use Rattle.std.proofs.Common.{◌≡◌, ◌/◌, ◌^◌, ◌<◌, All, IfSome}
use Rattle.std.specs.List.{flat_map, range_with_len}
use Rattle.segment_disk.specs.Tape.{IsUncalled, state_now}
use Rattle.flush_core.specs.PlannedPages.{IsPageOf, planned_in}
use Rattle.flush_core.specs.Settled.{segments_cleared}
use Rattle.flush_core.proofs.planning.plan_segments.Given as goal

abbrev pub invariant-loop-before : goal.invariant-loop-before
invariant-loop-before g l = record {
  cleared : IfSome (g.D.Disk.tape l.fn.disk) (λ t. l.pages.items ≡ flat_map (planned_in l.geometry l.end.0 (state_now t)) (range_with_len 1 l.before));
  synced : IfSome (g.D.Disk.tape l.fn.disk) (λ t. l.segments.items ≡ segments_cleared l.geometry l.end.0 (state_now t) l.before);
  pages : All (IsPageOf l.geometry) l.pages.items;
  numbers : All (λ segment. segment < 2 ^ 64 / l.geometry) l.segments.items;
  uncalled : IsUncalled g.D.Disk.tape g.D.Disk.moment l.fn.disk l.disk;
  faults : g.D.Disk.faults l.disk ≡ g.D.Disk.faults l.fn.disk;
}
