use Rattle.wal_crc32c.proofs.SparseMultiple.{taken_into_room}
use Rattle.std.proofs.Common.{arith}
use Rattle.wal_crc32c.proofs.sparse_multiple.take_away.Goals as goal

pub returns : goal.returns
returns c = λ r stands.
    rw c.store.ensures.stored
    (taken_into_room r c.args.at c.args.room.now c.args.v c.put_upon.result (omega (arith, c.told-room)) c.fits-v.0 c.store.ensures.lanes.0 c.store.ensures.lanes.1 c.put_upon.ensures stands)
