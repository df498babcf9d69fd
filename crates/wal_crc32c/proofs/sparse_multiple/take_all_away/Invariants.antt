use Rattle.std.proofs.Common.{ℕ, ◌+◌, ◌-◌, ◌≤◌, fold, take, length}
use Rattle.wal_crc32c.specs.Crc32c.{after_byte}
use Rattle.wal_crc32c.specs.SparseMultiple.{CarriesOn}
use Rattle.wal_crc32c.proofs.sparse_multiple.take_all_away.Given as goal

abbrev pub invariant-loop-done : goal.invariant-loop-done
invariant-loop-done l =
    (l.done + 224 ≤ length l.bytes)
    × ((r : ℕ) → CarriesOn (take 209 l.fn.room) r → CarriesOn (take 209 l.room) (fold after_byte r (take l.done l.bytes)))

abbrev pub decreases-loop-done : goal.decreases-loop-done
decreases-loop-done l = length l.bytes - l.done
