use Rattle.std.proofs.Common.{arith}
use Rattle.wal_crc32c.proofs.SparseMultiple.{begun}
use Rattle.wal_crc32c.proofs.sparse_multiple.begin.Goals as goal

pub returns : goal.returns
returns c =
    rw c.store.ensures.stored
    (begun c.args.before c.args.room.now c.args.v c.mixed.result (omega (arith, c.told-room)) c.fits-v.0 c.store.ensures.lanes.0 c.store.ensures.lanes.1 c.requires c.mixed.ensures)
