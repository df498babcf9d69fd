use Rattle.std.proofs.Common.{◌+◌, fold, sym, arith}
use lib.Lanes.{chunk}
use Rattle.wal_crc32c.specs.Crc32c.{after_byte}
use Rattle.wal_crc32c.proofs.SparseMultiple.{fold-more, stands_at}
use Rattle.wal_crc32c.proofs.sparse_multiple.take_sixteen_away.Goals as goal

pub returns : goal.returns
returns c = λ r stands.
    let at = c.args.at in
    let bytes = c.args.bytes.now in
    let on_first = c.take_four_away.ensures r stands in
    let on_second = stands_at _ (at + 64 + 64) (at + 128) _ _ (omega arith) (sym (fold-more r at 64 64 bytes)) (c.take_four_away-2.ensures (fold after_byte r (chunk at 64 bytes)) on_first) in
    let on_third = stands_at _ (at + 128 + 64) (at + 192) _ _ (omega arith) (sym (fold-more r at 128 64 bytes)) (c.take_four_away-3.ensures (fold after_byte r (chunk at 128 bytes)) on_second) in
    stands_at _ (at + 192 + 64) (at + 256) _ _ (omega arith) (sym (fold-more r at 192 64 bytes)) (c.take_four_away-4.ensures (fold after_byte r (chunk at 192 bytes)) on_third)
