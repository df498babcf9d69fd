use Rattle.std.proofs.Common.{◌+◌, sym, ap, ◌∙◌, arith, rules}
use Rattle.byte_position.specs.Position.{behind_header}
use Rattle.byte_position.proofs.PositionLaws.{address_of-zero, address_of-next}
use Rattle.byte_position.proofs.position.address_by_counting.Goals as goal

pub loop-counted-init : goal.loop-counted-init
loop-counted-init c =
    (c.walk_behind_header-address.ensures.value ∙ sym (address_of-zero c.args.geometry), search rules)

pub loop-counted-preserved : goal.loop-counted-preserved
loop-counted-preserved c =
    (c.walk_behind_header-address-in-loop-counted.ensures.value ∙ ap (λ a. behind_header c.args.geometry (a + 1)) c.loop-counted.invariant.0 ∙ sym (address_of-next c.args.geometry c.loop-counted._counted), omega (arith, c.walk_behind_header-address-in-loop-counted.ensures.near, c.loop-counted.invariant.1))
