use Rattle.std.proofs.Common.{◌≡◌, ◌≤◌, take, map, vec_capacity}
use Rattle.segment_disk.proofs.memory.segments.SegmentList.list_of.Given as goal

abbrev pub invariant-loop-segment : goal.invariant-loop-segment
invariant-loop-segment l = record {
  numbers : l.numbers.items ≡ map (λ segment. segment.number) (take l.segment-index l.segments);
  roomy : l.self.limit ≤ vec_capacity l.numbers;
}
