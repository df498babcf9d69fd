use Rattle.std.proofs.Common.{◌≡◌, ◌+◌, ◌-◌, ◌≤◌, take, drop}
use Rattle.wal_crc32c.proofs.sparse_multiple.move_to_front.Given as goal

abbrev pub invariant-loop-at : goal.invariant-loop-at
invariant-loop-at l =
    (l.at ≤ 224)
    × (take l.at l.room ≡ take l.at (drop l.from l.fn.room))
    × (drop (l.from + l.at) l.room ≡ drop (l.from + l.at) l.fn.room)

abbrev pub decreases-loop-at : goal.decreases-loop-at
decreases-loop-at l = 224 - l.at
