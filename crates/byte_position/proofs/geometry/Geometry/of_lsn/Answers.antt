use Rattle.std.proofs.Common.{arith, rules}
use Rattle.byte_position.specs.Geometry.{IsSegmentSize}
use Rattle.byte_position.proofs.Pages.{position_of-by_page}
use Rattle.byte_position.proofs.Rising.{position_of-le_self}
use Rattle.byte_position.proofs.Places.{HasPosition-behind_header, inside_header_has_no_position}
use Rattle.byte_position.proofs.geometry.Geometry.of_lsn.Goals as goal

pub overflow_add-result : goal.overflow_add-result
overflow_add-result c =
    let valid : IsSegmentSize c.args.self = search rules in
    omega (arith, position_of-by_page c.args.self valid c.args.at.0, position_of-le_self c.args.self c.args.at.0)

pub returns-in_default : goal.returns-in_default
returns-in_default c =
    let valid : IsSegmentSize c.args.self = search rules in
    inside_header_has_no_position c.args.self valid c.args.at.0 (omega arith) (omega arith)

pub returns-in_default-2 : goal.returns-in_default-2
returns-in_default-2 c =
    let valid : IsSegmentSize c.args.self = search rules in
    (HasPosition-behind_header c.args.self valid c.args.at.0 (omega arith), omega (arith, position_of-by_page c.args.self valid c.args.at.0))
