use Rattle.std.proofs.Common.{arith, rules}
use Rattle.byte_position.specs.Geometry.{IsSegmentSize}
use Rattle.byte_position.proofs.Division.{usable_bytes_bounds, address_of-by_division_first, address_of-by_division_further}
use Rattle.byte_position.proofs.geometry.Geometry.to_lsn.Goals as goal

pub nonzero_div-segment_start : goal.nonzero_div-segment_start
nonzero_div-segment_start c =
    let valid : IsSegmentSize c.args.self = search rules in
    omega (arith, usable_bytes_bounds c.args.self valid, c.usable_bytes_in_segment-usable.ensures)

pub returns-then-left-lt-USABLE_BYTES_IN_FIRST_PAGE : goal.returns-then-left-lt-USABLE_BYTES_IN_FIRST_PAGE
returns-then-left-lt-USABLE_BYTES_IN_FIRST_PAGE c =
    let valid : IsSegmentSize c.args.self = search rules in
    address_of-by_division_first c.args.self valid c.args.position c.usable_bytes_in_segment-usable.result c.segment_size.result c.usable_bytes_in_segment-usable.ensures c.segment_size.ensures.value c.if-left-lt-USABLE_BYTES_IN_FIRST_PAGE.true

pub returns : goal.returns
returns c =
    let valid : IsSegmentSize c.args.self = search rules in
    address_of-by_division_further c.args.self valid c.args.position c.usable_bytes_in_segment-usable.result c.segment_size.result c.usable_bytes_in_segment-usable.ensures c.segment_size.ensures.value c.if-left-lt-USABLE_BYTES_IN_FIRST_PAGE.false
