use Rattle.std.proofs.Common.{ℕ, ◌-◌, ◌≤◌, fold, take, length}
use lib.Lanes.{chunk}
use Rattle.wal_crc32c.specs.Crc32c.{after_byte}
use Rattle.wal_crc32c.specs.SparseMultiple.{CarriesOn}
use Rattle.wal_crc32c.proofs.sparse_multiple.take_vectors_away.Given as goal

abbrev pub invariant-loop-at : goal.invariant-loop-at
invariant-loop-at l =
    (l.at ≤ length l.piece)
    × ((r : ℕ) → CarriesOn (chunk l.first 209 l.fn.room) (fold after_byte r (take l.first l.piece)) → CarriesOn (chunk l.at 209 l.room) (fold after_byte r (take l.at l.piece)))

abbrev pub decreases-loop-at : goal.decreases-loop-at
decreases-loop-at l = length l.piece - l.at
