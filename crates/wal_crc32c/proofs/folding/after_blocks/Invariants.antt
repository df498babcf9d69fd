use Rattle.std.proofs.Common.{◌≡◌, fold, length, ◌++◌}
use Rattle.wal_crc32c.specs.Crc32c.{after_byte}
use Rattle.wal_crc32c.specs.Folding.{six_remainder}
use Rattle.wal_crc32c.proofs.folding.after_blocks.Given as goal

-- what is absorbed so far and the rest are the whole
abbrev pub invariant-loop-block : goal.invariant-loop-block
invariant-loop-block l = fold after_byte (six_remainder l.six) l.rest ≡ fold after_byte l.fn.before (l.first ++ l.behind)

abbrev pub decreases-loop-block : goal.decreases-loop-block
decreases-loop-block l = length l.rest
