use Rattle.std.proofs.Common.{arith, rules}
use Rattle.byte_position.specs.Geometry.{IsSegmentSize}
use Rattle.byte_position.proofs.EndAddresses.{le-position_of}
use Rattle.wal_page.proofs.PlacedSteps.{stands_between}
use Rattle.wal_page.proofs.placed.Placed.at.Goals as goal

pub overflow_sub-result : goal.overflow_sub-result
overflow_sub-result c =
    let valid : IsSegmentSize c.args.geometry = search rules in
    omega (arith, c.position_of.ensures, le-position_of c.args.geometry valid c.args.start c.args.next.0 c.requires.begun)

pub invariant_of-result : goal.invariant_of-result
invariant_of-result c =
    let valid : IsSegmentSize c.args.geometry = search rules in
    rw c.position_of.ensures (stands_between c.args.geometry c.args.body.now c.args.start c.room_at.result c.args.next.0 valid c.room_at.ensures c.requires.whole (rw c.room_at.ensures c.requires.within) c.requires.at_word c.requires.begun (rw c.room_at.ensures c.requires.owned))
