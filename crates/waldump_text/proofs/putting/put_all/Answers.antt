use Rattle.std.proofs.Common.{List, ℕ, map, drop, ◌+◌, Bor}
use Rattle.std.proofs.lemmas.List.{at_drop_more}
use Rattle.std.proofs.lemmas.Result.{err_from_is_err_and}
use Rattle.waldump_text.specs.Put.{joined}
use Rattle.waldump_text.proofs.SinkLaws.{HasPut-more, Puts-failed}
use Rattle.waldump_text.proofs.putting.put_all.Goals as goal

-- the pieces that are left, the first of them apart
abbrev left : List (Bor (List ℕ)) → List ℕ
left pieces = joined (map (λ p. p.now) pieces)

pub returns-in_err-put : goal.returns-in_err-put
returns-in_err-put g c =
    let p = err_from_is_err_and c.from_residual.result c.from_residual.ensures.1 in
    rw (p.1, p.2) (Puts-failed _ (left (drop (c.loop-piece.piece-index + 1) c.args.pieces.now)) _ c.loop-piece.invariant (at_drop_more left c.args.pieces.now c.loop-piece.piece-index _ c.loop-piece-test.true) c.in_err-put.ensures)

pub loop-piece-preserved : goal.loop-piece-preserved
loop-piece-preserved g c =
    let took = c.in_ok-put.ensures in
    HasPut-more _ _ c.loop-piece.invariant (at_drop_more left c.args.pieces.now c.loop-piece.piece-index _ c.loop-piece-test.true) took.0 took.1
