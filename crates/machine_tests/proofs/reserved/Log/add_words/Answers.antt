-- A record takes up less than a segment and its own bytes, wherever it starts.
use Rattle.std.proofs.Common.{rules, arith}
use Rattle.byte_position.specs.Geometry.{IsSegmentSize}
use Rattle.wal_page.proofs.PaddingLaws.{assembled_room_at-bound, usable-bound}
use Rattle.machine_tests.proofs.reserved.Log.add_words.Goals as goal

pub new-placed-requires-clause-within : goal.new-placed-requires-clause-within
new-placed-requires-clause-within c =
    let size = c.args.geometry in
    let valid : IsSegmentSize size = search rules in
    omega (arith, assembled_room_at-bound size valid c.args.start c.args.body.now, usable-bound size valid, c.room-room.ensures.room, c.room-room.ensures.bounds.1, c.requires.low)
