use Rattle.std.proofs.Common.{map, drop}
use Rattle.waldump_text.specs.Put.{HasPut, joined}
use Rattle.waldump_text.proofs.putting.put_all.Given as goal

abbrev pub invariant-loop-piece : goal.invariant-loop-piece
invariant-loop-piece g l = HasPut (g.O.Sink.taken l.initial.out) (g.O.Sink.taken l.out) (g.O.Sink.faults l.initial.out) (g.O.Sink.faults l.out) (joined (map (λ p. p.now) l.pieces)) (joined (map (λ p. p.now) (drop l.piece-index l.pieces)))
