use Rattle.std.proofs.Common.{◌≡◌, ◌+◌, ◌*◌, ◌/◌, arith}
use Rattle.std.proofs.Math.Nat.{mul-div-le, mul-suc}
use Rattle.byte_position.proofs.Rising.{address_of-bound}
use Rattle.byte_position.proofs.SegmentSizes.{segment_size_in_pages}
use Rattle.wal_page.proofs.room.next_segment.Goals as goal

pub overflow_mul-size : goal.overflow_mul-size
overflow_mul-size c =
    let size = c.segment_size-size.result in
    let address = c.to_lsn.result.0 in
    let pages = segment_size_in_pages size c.segment_size-size.ensures.valid in
    let bound = address_of-bound c.args.geometry (rw c.segment_size-size.ensures.value at c.segment_size-size.ensures.valid) c.args.position in
    let starts = mul-div-le address size in
    let more : size * (address / size + 1) ≡ size * (address / size) + size = omega (arith, mul-suc size (address / size)) in
    omega (arith, c.to_lsn.ensures, c.requires)
