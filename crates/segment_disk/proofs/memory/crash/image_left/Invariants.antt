use Rattle.std.proofs.Common.{◌-◌, ◌^◌}
use Rattle.segment_disk.specs.Crash.{first_behind}
use Rattle.segment_disk.specs.First.{first_state}
use Rattle.segment_disk.specs.Tape.{after_calls}
use Rattle.segment_disk.proofs.ImageLeft.{ImageUpto}
use Rattle.segment_disk.proofs.memory.crash.image_left.Given as goal

abbrev pub invariant-loop-number : goal.invariant-loop-number
invariant-loop-number l =
    ImageUpto l.pick (after_calls (first_state l.first) l.calls) l.left.items l.numbers
    (first_behind l.last)

abbrev pub decreases-loop-number : goal.decreases-loop-number
decreases-loop-number l = 2 ^ 64 - first_behind l.last
