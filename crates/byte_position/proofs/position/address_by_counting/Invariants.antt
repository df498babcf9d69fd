use Rattle.std.proofs.Common.{◌≡◌, ◌+◌, ◌*◌, ◌≤◌}
use Rattle.byte_position.specs.Position.{address_of}
use Rattle.byte_position.proofs.position.address_by_counting.Given as goal

abbrev pub invariant-loop-counted : goal.invariant-loop-counted
invariant-loop-counted l = (l.address ≡ address_of l.geometry l._counted) × (l.address ≤ 41 * l._counted + 40)
