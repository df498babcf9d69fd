-- A record takes up less than a segment and its own bytes, wherever it starts.
use Rattle.std.proofs.Common.{rules, ◌+◌, ◌*◌, arith}
use Rattle.byte_position.specs.Geometry.{IsSegmentSize}
use Rattle.wal_page.proofs.PaddingLaws.{assembled_room_at-bound, usable-bound}
use Rattle.format_tests.proofs.placing.placed.Goals as goal

pub new-requires-clause-within : goal.new-requires-clause-within
new-requires-clause-within c =
    let size = c.smallest.result in
    let valid : IsSegmentSize size = search rules in
    let start = 1045488 + 8 * c.from.result in
    omega (arith, assembled_room_at-bound size valid start c.args.body.now, usable-bound size valid, c.room-room.ensures.room, c.room-room.ensures.bounds.1)
