use Rattle.std.proofs.Common.{◌+◌, fold, take, refl, sym, ap, ◌∙◌, arith}
use Rattle.wal_crc32c.specs.Crc32c.{after_byte}
use Rattle.wal_crc32c.proofs.SparseMultiple.{fold-taken, stands_at}
use Rattle.wal_crc32c.proofs.sparse_multiple.take_vectors_away.Goals as goal

pub loop-at-preserved : goal.loop-at-preserved
loop-at-preserved c =
    let at = c.loop-at.at in
    let piece = c.args.piece.now in (
      omega (arith, c.loop-at-test.true),
      λ r stands.
          stands_at _ (at + 16) (at + 16) _ _ refl (ap (fold after_byte (fold after_byte r (take at piece))) c.vector_at.ensures ∙ sym (fold-taken r at 16 piece)) (c.take_away.ensures (fold after_byte r (take at piece)) (c.loop-at.invariant.1 r stands)),
    )
