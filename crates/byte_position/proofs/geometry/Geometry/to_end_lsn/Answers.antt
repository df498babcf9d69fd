use Rattle.std.proofs.Common.{◌-◌, sym, ap, ◌∙◌, arith, rules}
use Rattle.byte_position.specs.Geometry.{IsSegmentSize}
use Rattle.byte_position.specs.Position.{end_address_of}
use Rattle.byte_position.proofs.PositionLaws.{end_address_of-zero}
use Rattle.byte_position.proofs.Rising.{address_of-bound}
use Rattle.byte_position.proofs.EndAddresses.{end_address_of-before}
use Rattle.byte_position.proofs.geometry.Geometry.to_end_lsn.Goals as goal

pub overflow_add-result : goal.overflow_add-result
overflow_add-result c =
    let valid : IsSegmentSize c.args.self = search rules in
    omega (arith, address_of-bound c.args.self valid (c.args.position - 1))

pub returns-in-0 : goal.returns-in-0
returns-in-0 c =
    sym (ap (end_address_of c.args.self) c.in-0.is ∙ end_address_of-zero c.args.self)

pub returns-in_default : goal.returns-in_default
returns-in_default c =
    omega (arith, end_address_of-before c.args.self c.args.position (omega arith))
