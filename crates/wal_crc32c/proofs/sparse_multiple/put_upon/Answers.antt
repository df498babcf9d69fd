use Rattle.wal_crc32c.proofs.SparseMultiple.{xored_at_terms}
use Rattle.std.proofs.Common.{arith}
use Rattle.wal_crc32c.proofs.sparse_multiple.put_upon.Goals as goal

pub returns : goal.returns
returns c =
    rw (c.vector_at.ensures, c.vector_at-2.ensures, c.vector_at-3.ensures, c.vector_at-4.ensures, c.vector_at-5.ensures)
    (xored_at_terms c.args.at c.args.room.now c.args.v c.fits-v.0 (omega (arith, c.told-room)))
