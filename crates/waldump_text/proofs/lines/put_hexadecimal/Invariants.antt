use Rattle.std.proofs.Common.{◌≡◌, ◌++◌}
use Rattle.waldump_text.specs.Names.{hexadecimal}
use Rattle.waldump_text.specs.Put.{HasPut}
use Rattle.waldump_text.proofs.lines.put_hexadecimal.Given as goal

abbrev pub invariant-loop-part : goal.invariant-loop-part
invariant-loop-part g l =
    (l.part-iterator.size ≡ 256)
    × HasPut (g.O.Sink.taken l.initial.out) (g.O.Sink.taken l.out) (g.O.Sink.faults l.initial.out) (g.O.Sink.faults l.out) (l.initial.buffer ++ hexadecimal l.bytes) (l.buffer ++ hexadecimal l.part-iterator.rest.now)
