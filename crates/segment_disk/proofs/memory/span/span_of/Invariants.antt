use Rattle.segment_disk.specs.First.{first_state}
use Rattle.segment_disk.proofs.Spans.{SpansAt}
use Rattle.segment_disk.proofs.memory.span.span_of.Given as goal

abbrev pub invariant-loop-i : goal.invariant-loop-i
invariant-loop-i l =
    SpansAt (first_state l.first) l.calls l.segment l.there l.pages l.since l.i
