use Rattle.segment_disk.specs.First.{first_state}
use Rattle.segment_disk.specs.Tape.{after_calls}
use Rattle.segment_disk.proofs.SegmentLeft.{LeftUpto}
use Rattle.segment_disk.proofs.memory.crash.segment_left.Given as goal

abbrev pub invariant-loop-page : goal.invariant-loop-page
invariant-loop-page l =
    LeftUpto l.pick l.numbers (after_calls (first_state l.first) l.calls l.segment) l.pages.items
    l.undecided l.rest l.page
