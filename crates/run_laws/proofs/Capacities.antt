-- How many bytes the records of a log may take up at most, and how far they reach then.
use Rattle.std.proofs.Common.{◌≡◌, ℕ, ◌+◌, ◌*◌, ◌^◌, ◌≤◌, List, ap, arith}
use Rattle.std.proofs.Math.Nat.{mul-le-mul_right}
use Rattle.byte_position.specs.Geometry.{IsSegmentSize}
use Rattle.byte_position.specs.Position.{end_address_of, first_position}
use Rattle.byte_position.proofs.EndAddresses.{end_address_of-le_address_of}
use Rattle.byte_position.proofs.Rising.{position_of-le_self, address_of-bound}
use Rattle.byte_position.proofs.SegmentSizes.{segment_size_tests}
use Rattle.byte_position.proofs.Segments.{first_position-usable}
use Rattle.wal_page.specs.Order.{Entry, rooms_of, end_position}
use Rattle.run_laws.specs.Rooms.{capacity_of}

pub capacity_of-le : (size segments : ℕ) → IsSegmentSize size → segments ≤ 4096 → capacity_of size segments ≤ 2 ^ 42
capacity_of-le size segments valid few =
    let first = first_position size in
    let low : first ≤ 2 ^ 30 = omega (arith, position_of-le_self size size, (segment_size_tests size valid).2) in
    let more : segments * first ≤ 4096 * first = mul-le-mul_right first few in
    let is : segments * first ≡ capacity_of size segments = ap (λ (n : ℕ). segments * n) (first_position-usable size valid) in
    omega (arith, is, more, low)

-- a log of at most 2 ^ 42 bytes ends far below the last address that is read
pub ends_low : (size : ℕ) → IsSegmentSize size → (es : List Entry) → rooms_of size es ≤ 2 ^ 42 → end_address_of size (end_position size es) ≤ 2 ^ 60
ends_low size valid es within =
    let p = first_position size + rooms_of size es in
    omega (arith, end_address_of-le_address_of size valid p, address_of-bound size valid p, position_of-le_self size size, (segment_size_tests size valid).2)
