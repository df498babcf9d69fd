-- Some pages were mapped, and the turn is had.
use Rattle.word_ring.proofs.Steps.{MappedSome}
use Rattle.word_ring.proofs.mapping.map_on.Given as goal

abbrev pub invariant-loop-mapped : goal.invariant-loop-mapped
invariant-loop-mapped g l = MappedSome l.fn.seated l._mapped l.seated
