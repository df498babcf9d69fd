use Rattle.std.proofs.Common.{[], ◌∷◌}
use Rattle.wal_crc32c.specs.Folding.{remainder}
use Rattle.wal_crc32c.proofs.Spread.{all_absorbed}
use Rattle.wal_crc32c.proofs.folding.ended.Goals as goal

pub returns : goal.returns
returns c =
    rw (c.after_vector.ensures, c.after_vector-before-5.ensures, c.after_vector-before-4.ensures, c.after_vector-before-3.ensures, c.after_vector-before-2.ensures, c.after_vector-before.ensures)
    (all_absorbed (remainder c.args.six.v0 ∷ remainder c.args.six.v1 ∷ remainder c.args.six.v2 ∷ remainder c.args.six.v3 ∷ remainder c.args.six.v4 ∷ remainder c.args.six.v5 ∷ []))
