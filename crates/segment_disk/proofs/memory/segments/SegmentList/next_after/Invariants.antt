use Rattle.std.proofs.Common.{take}
use Rattle.segment_disk.specs.Crash.{first_behind}
use Rattle.segment_disk.proofs.Listed.{IsNextOf, IsOneOf}
use Rattle.segment_disk.proofs.memory.segments.SegmentList.next_after.Given as goal

abbrev pub invariant-loop-number : goal.invariant-loop-number
invariant-loop-number l =
    IsNextOf (take l.number-index l.self.numbers.items) (first_behind l.last) l.next
    × IsOneOf (take l.number-index l.self.numbers.items) l.next
