use Rattle.std.proofs.Common.{take, drop, sym, ap, ◌∙◌, arith}
use Rattle.std.proofs.lemmas.List.{take-take}
use Rattle.wal_crc32c.proofs.SparseMultiple.{moved_further}
use Rattle.wal_crc32c.proofs.sparse_multiple.move_to_front.Goals as goal

pub loop-at-preserved : goal.loop-at-preserved
loop-at-preserved c =
    let so_far = c.loop-at.invariant in
    let further = moved_further c.loop-at.at c.args.from c.loop-at.room c.args.room.now c.vector_at.result c.store.ensures.lanes.0 (omega arith) c.vector_at.ensures so_far.1 so_far.2 in
    rw c.store.ensures.stored (c.loop-at-test.true, further.0, further.1)

pub returns : goal.returns
returns c =
    let so_far = c.loop-at.invariant in
    sym (take-take 209 c.loop-at.at c.loop-at.room (omega arith))
    ∙ ap (take 209) so_far.1
    ∙ take-take 209 c.loop-at.at (drop c.args.from c.args.room.now) (omega arith)
