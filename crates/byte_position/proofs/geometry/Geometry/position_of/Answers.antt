use Rattle.std.proofs.Common.{arith, rules}
use Rattle.byte_position.specs.Geometry.{IsSegmentSize}
use Rattle.byte_position.proofs.Pages.{position_of-by_page}
use Rattle.byte_position.proofs.Rising.{position_of-le_self}
use Rattle.byte_position.proofs.geometry.Geometry.position_of.Goals as goal

pub overflow_add-result : goal.overflow_add-result
overflow_add-result c =
    let valid : IsSegmentSize c.args.self = search rules in
    omega (arith, position_of-by_page c.args.self valid c.args.at.0, position_of-le_self c.args.self c.args.at.0)

pub returns : goal.returns
returns c =
    let valid : IsSegmentSize c.args.self = search rules in
    omega (arith, position_of-by_page c.args.self valid c.args.at.0)
