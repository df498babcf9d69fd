use Rattle.std.proofs.Common.{◌≡◌, ◌-◌, ◌%◌, ◌≤◌, ◌++◌, take, replicate}
use Rattle.wal_crc32c.proofs.sparse_multiple.clear.Given as goal

abbrev pub invariant-loop-at : goal.invariant-loop-at
invariant-loop-at l =
    (209 ≤ l.at)
    × (l.at ≤ 369)
    × (l.at % 16 ≡ 1)
    × (take l.at l.room ≡ take 209 l.fn.room ++ replicate (l.at - 209) 0)

abbrev pub decreases-loop-at : goal.decreases-loop-at
decreases-loop-at l = 369 - l.at
