use Rattle.std.proofs.Common.{◌*◌, ◌∙◌, arith, rules}
use Rattle.byte_position.specs.Geometry.{IsSegmentSize}
use Rattle.byte_position.proofs.Rising.{position_of-le_self}
use Rattle.byte_position.proofs.Division.{segment_start_fits, position_of-by_division_first, position_of-by_division_further}
use Rattle.byte_position.proofs.geometry.Geometry.position_of_page.Goals as goal

pub overflow_mul-segment_start : goal.overflow_mul-segment_start
overflow_mul-segment_start c =
    let valid : IsSegmentSize c.args.self = search rules in
    omega (arith, segment_start_fits c.args.self valid c.args.page c.from-pages.result c.usable_bytes_in_segment.result (c.from-pages.ensures ∙ c.pages.ensures.value) c.usable_bytes_in_segment.ensures)

pub overflow_add-result : goal.overflow_add-result
overflow_add-result c =
    let valid : IsSegmentSize c.args.self = search rules in
    let at = position_of-by_division_further c.args.self valid c.args.page c.from-pages.result c.usable_bytes_in_segment.result (c.from-pages.ensures ∙ c.pages.ensures.value) c.usable_bytes_in_segment.ensures (omega arith) in
    omega (arith, position_of-le_self c.args.self (8192 * c.args.page))

pub overflow_add-result-in_default : goal.overflow_add-result-in_default
overflow_add-result-in_default c =
    let valid : IsSegmentSize c.args.self = search rules in
    let at = position_of-by_division_further c.args.self valid c.args.page c.from-pages.result c.usable_bytes_in_segment.result (c.from-pages.ensures ∙ c.pages.ensures.value) c.usable_bytes_in_segment.ensures (omega arith) in
    omega (arith, position_of-le_self c.args.self (8192 * c.args.page))

pub returns-in-0 : goal.returns-in-0
returns-in-0 c =
    let valid : IsSegmentSize c.args.self = search rules in
    position_of-by_division_first c.args.self valid c.args.page c.from-pages.result c.usable_bytes_in_segment.result (c.from-pages.ensures ∙ c.pages.ensures.value) c.usable_bytes_in_segment.ensures c.in-0.is

pub returns-in_default : goal.returns-in_default
returns-in_default c =
    let valid : IsSegmentSize c.args.self = search rules in
    position_of-by_division_further c.args.self valid c.args.page c.from-pages.result c.usable_bytes_in_segment.result (c.from-pages.ensures ∙ c.pages.ensures.value) c.usable_bytes_in_segment.ensures (omega arith)
