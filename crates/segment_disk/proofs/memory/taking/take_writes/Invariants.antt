use Rattle.std.proofs.Common.{take}
use Rattle.segment_disk.specs.Crash.{writes_of}
use Rattle.segment_disk.specs.Picks.{writes_to}
use Rattle.segment_disk.proofs.TakenWords.{TakenAt}
use Rattle.segment_disk.proofs.memory.taking.take_writes.Given as goal

abbrev pub invariant-loop-call : goal.invariant-loop-call
invariant-loop-call l =
    TakenAt l.pick l.rest (writes_to (writes_of (take l.call-index l.calls) l.segment) l.page)
    l.initial.bytes l.bytes l.number l.call-index
