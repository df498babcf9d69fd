use Rattle.std.proofs.Common.{◌≡◌, ◌-◌, ◌%◌, ◌≤◌, length, take}
use Rattle.std.specs.Int.Bits.{bit_xor}
use lib.Lanes.{chunk}
use Rattle.wal_crc32c.specs.Folding.{remainder}
use Rattle.wal_crc32c.specs.SparseMultiple.{terms, over}
use Rattle.wal_crc32c.proofs.sparse_multiple.left_of.Given as goal

-- the bytes so far leave what these of the last and all that is put on them leave
abbrev pub invariant-loop-at : goal.invariant-loop-at
invariant-loop-at l =
    (l.at ≤ 224)
    × (l.at % 16 ≡ 0)
    × (length l.left ≡ 224)
    × (remainder (take l.at l.left) ≡ bit_xor (remainder (take l.at l.last)) (over terms (λ k. remainder (chunk k l.at l.room))))

abbrev pub decreases-loop-at : goal.decreases-loop-at
decreases-loop-at l = 224 - l.at
