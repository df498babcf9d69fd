use Rattle.std.proofs.Common.{◌≡◌, ◌++◌, map, drop}
use Rattle.waldump_text.specs.Put.{joined}
use Rattle.cluster_listing.proofs.pieces.push_all.Given as goal

abbrev pub invariant-loop-piece : goal.invariant-loop-piece
invariant-loop-piece l = l.line.items ++ joined (map (λ p. p.now) (drop l.piece-index l.pieces)) ≡ l.initial.line.items ++ joined (map (λ p. p.now) l.pieces)
