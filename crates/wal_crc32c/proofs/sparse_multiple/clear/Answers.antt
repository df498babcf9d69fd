use Rattle.std.proofs.Common.{◌≡◌, ◌-◌, ◌++◌, take, replicate, subst, refl, arith}
use Rattle.wal_crc32c.proofs.SparseMultiple.{cleared_further}
use Rattle.wal_crc32c.proofs.sparse_multiple.clear.Goals as goal

pub loop-at-preserved : goal.loop-at-preserved
loop-at-preserved c =
    let so_far = c.loop-at.invariant in
    rw c.store.ensures.stored
    (omega arith, c.loop-at-test.true, omega (arith, so_far.2), cleared_further c.loop-at.at c.loop-at.room (take 209 c.args.room.now) (replicate 16 0) so_far.0 (omega arith) refl so_far.3)

pub returns : goal.returns
returns c =
    let so_far = c.loop-at.invariant in
    let ended : c.loop-at.at ≡ 369 = omega (arith, so_far.1, so_far.2) in
    subst (λ n. take n c.loop-at.room ≡ take 209 c.args.room.now ++ replicate (n - 209) 0) ended so_far.3
