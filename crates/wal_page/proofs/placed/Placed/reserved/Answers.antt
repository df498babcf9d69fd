use Rattle.std.proofs.Common.{rules}
use Rattle.byte_position.specs.Geometry.{IsSegmentSize}
use Rattle.wal_page.proofs.PlacedSteps.{stands_first}
use Rattle.wal_page.proofs.placed.Placed.reserved.Goals as goal

pub invariant_of-result : goal.invariant_of-result
invariant_of-result c =
    let valid : IsSegmentSize c.args.geometry = search rules in
    rw c.requires.next (stands_first c.args.geometry c.args.body.now c.args.start c.args.room valid c.requires.room c.requires.whole c.requires.within)
