-- A record takes up less than a segment and its own bytes, wherever it starts.
use Rattle.std.proofs.Common.{rules, arith}
use Rattle.byte_position.specs.Geometry.{IsSegmentSize}
use Rattle.wal_page.proofs.PaddingLaws.{assembled_room_at-bound, usable-bound}
use Rattle.stream_tests.proofs.log.Log.add.Goals as goal

pub new-placed-requires-clause-within : goal.new-placed-requires-clause-within
new-placed-requires-clause-within c =
    let size = c.smallest.result in
    let valid : IsSegmentSize size = search rules in
    let start = c.args.self.now.position in
    omega (arith, assembled_room_at-bound size valid start c.args.body.now, usable-bound size valid, c.room.ensures.room, c.room.ensures.bounds.1, c.if-start-gt1099511627776.false)
