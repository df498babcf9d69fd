use Rattle.std.proofs.Common.{ℕ, ◌+◌, List, ◌++◌, map, drop, Bor, ap, sym, ◌∙◌, append_assoc}
use Rattle.std.proofs.lemmas.List.{at_drop_more}
use Rattle.waldump_text.specs.Put.{joined}
use Rattle.cluster_listing.proofs.pieces.push_all.Goals as goal

-- the pieces that are left, the first of them apart
abbrev left : List (Bor (List ℕ)) → List ℕ
left pieces = joined (map (λ p. p.now) pieces)

pub loop-piece-preserved : goal.loop-piece-preserved
loop-piece-preserved c =
    let rest = left (drop (c.loop-piece.piece-index + 1) c.args.pieces.now) in
    ap (λ (text : List ℕ). text ++ rest) c.in_ok-extend_from_slice.ensures.items
    ∙ append_assoc c.loop-piece.line.items _ rest
    ∙ ap (λ (text : List ℕ). c.loop-piece.line.items ++ text) (sym (at_drop_more left c.args.pieces.now c.loop-piece.piece-index _ c.loop-piece-test.true))
    ∙ c.loop-piece.invariant
