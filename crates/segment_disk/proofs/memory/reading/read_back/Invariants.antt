use Rattle.std.proofs.Common.{take}
use Rattle.segment_disk.specs.Tape.{after_calls}
use Rattle.segment_disk.specs.First.{first_state}
use Rattle.segment_disk.proofs.Reading.{IsKept}
use Rattle.segment_disk.proofs.memory.reading.read_back.Given as goal

abbrev pub invariant-loop-call : goal.invariant-loop-call
invariant-loop-call l = IsKept (after_calls (first_state l.first) (take l.call-index l.calls) l.segment) l.page l.pages l.last
