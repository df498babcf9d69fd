use Rattle.std.proofs.Common.{◌≡◌, drop}
use Rattle.segment_disk.specs.First.{first_at}
use Rattle.segment_disk.proofs.memory.first.find_first.Given as goal

abbrev pub invariant-loop-segment : goal.invariant-loop-segment
invariant-loop-segment l =
    first_at l.segments l.number ≡ first_at (drop l.segment-index l.segments) l.number
