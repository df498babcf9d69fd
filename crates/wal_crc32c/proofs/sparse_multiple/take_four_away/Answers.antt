use Rattle.std.proofs.Common.{◌+◌, fold, sym, ap, ◌∙◌, refl, arith}
use lib.Lanes.{chunk}
use Rattle.wal_crc32c.specs.Crc32c.{after_byte}
use Rattle.wal_crc32c.proofs.SparseMultiple.{fold-more, stands_at}
use Rattle.wal_crc32c.proofs.sparse_multiple.take_four_away.Goals as goal

pub returns : goal.returns
returns c = λ r stands.
    let at = c.args.at in
    let bytes = c.args.bytes.now in
    let first = fold after_byte r (chunk at 16 bytes) in
    let second = fold after_byte r (chunk at 32 bytes) in
    let third = fold after_byte r (chunk at 48 bytes) in
    let on_first = stands_at _ (at + 16) (at + 16) _ first refl (ap (fold after_byte r) c.vector_at.ensures) (c.take_away.ensures r stands) in
    let on_second = stands_at _ (at + 16 + 16) (at + 32) _ second (omega arith) (ap (fold after_byte first) c.vector_at-2.ensures ∙ sym (fold-more r at 16 16 bytes)) (c.take_away-2.ensures first on_first) in
    let on_third = stands_at _ (at + 32 + 16) (at + 48) _ third (omega arith) (ap (fold after_byte second) c.vector_at-3.ensures ∙ sym (fold-more r at 32 16 bytes)) (c.take_away-3.ensures second on_second) in
    stands_at _ (at + 48 + 16) (at + 64) _ _ (omega arith) (ap (fold after_byte third) c.vector_at-4.ensures ∙ sym (fold-more r at 48 16 bytes)) (c.take_away-4.ensures third on_third)
