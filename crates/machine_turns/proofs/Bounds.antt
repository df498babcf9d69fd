-- Bounds of segments and pages.
use Rattle.std.proofs.Common.{◌≡◌, ℕ, ◌+◌, ◌*◌, ◌/◌, ◌<◌, ◌≤◌, arith}
use Rattle.std.proofs.Math.Nat.{lt_of_mul-lt-mul_left}
use Rattle.std.proofs.lemmas.Nat.{le-div}
use Rattle.byte_position.specs.Geometry.{pages_of}

-- a segment that is due lies within the room
pub within_room : (size made written end room : ℕ) → (made + 1) * size ≤ written → written < end → end ≤ size * (room + 1) → made + 1 ≤ room
within_room size made written end room behind within most =
    let below = lt_of_mul-lt-mul_left size {m = made + 1} {n = room + 1} (omega arith) in
    omega arith

-- the page under way lies in segment 1 or above
pub segment_counts : (size written : ℕ) → 8192 * pages_of size ≡ size → 1 ≤ pages_of size → size ≤ written → 1 ≤ written / 8192 / pages_of size
segment_counts size written whole some_pages begun =
    le-div 1 (written / 8192) (pages_of size) some_pages (le-div (1 * pages_of size) written 8192 (omega arith) (omega (arith, whole, begun)))
