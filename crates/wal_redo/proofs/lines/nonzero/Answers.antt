use Rattle.std.proofs.Common.{◌-◌, ◌==◌, not, count_by, length, ap, ◌∙◌, arith}
use Rattle.wal_redo.proofs.LineLaws.{counted_more}
use Rattle.wal_redo.proofs.lines.nonzero.Goals as goal

pub loop-piece-init : goal.loop-piece-init
loop-piece-init c = record {
  counted = omega (arith, ap (count_by (λ byte. not (byte == 0))) c.as_slice-rest.ensures);
  pieces = (64, omega (arith, ap length c.as_slice-rest.ensures, c.fits-page));
}

pub loop-piece-preserved : goal.loop-piece-preserved
loop-piece-preserved c =
    let before = c.loop-piece.invariant in
    let parts = c.in-Some.ensures.cases in
    record {
      counted = counted_more (λ byte. not (byte == 0)) 128 c.loop-piece.count c.from-count.result _ c.loop-piece.rest.now c.in-Some.piece.now c.in-Some.others.now before.counted parts.0 parts.1 (c.from-count.ensures ∙ c.nonzero_in_piece.ensures);
      pieces = (before.pieces.0 - 1, omega (arith, before.pieces.1, parts.2));
    }
