use Rattle.std.proofs.Common.{◌+◌, ◌<◌, ◌≤◌, vec_len, arith}
use Rattle.wal_reader.proofs.GatherLaws.{room_grown, gathers_further}
use Rattle.wal_reader.proofs.gathering.take_bytes.Goals as goal

pub returns-clause-cursor : goal.returns-clause-cursor
returns-clause-cursor c =
    let cursor = c.args.cursor in
    let count = c.in_ok-count.count in
    let took = c.in_ok-count.ensures.count in
    let long = c.in_ok-count.ensures.len in
    let some : 0 < count = omega (arith, took, c.requires.within, c.requires.more, c.len.ensures) in
    let within : cursor.offset + count ≤ 8192 = omega (arith, took, c.requires.within) in
    (c.requires.on, gathers_further c.args.cache.now.geometry c.args.extent.at.position (vec_len c.args.room.now) cursor c.requires.stands count (vec_len c.append.new.room) some within long)

pub returns-clause-bytes : goal.returns-clause-bytes
returns-clause-bytes c = λ pages here had.
    let size = c.args.cache.now.geometry in
    let count = c.in_ok-count.count in
    let took = c.in_ok-count.ensures.count in
    let long = c.in_ok-count.ensures.len in
    let within : c.args.cursor.offset + count ≤ 8192 = omega (arith, took, c.requires.within) in
    room_grown size c.args.extent.at.position (vec_len c.args.room.now) (vec_len c.append.new.room) c.args.cursor c.requires.stands pages c.args.cache.now.bytes.value c.deref.result.now here c.deref.ensures c.in_ok-count.ensures.whole count within long c.args.room.now.items c.append.new.room.items had c.in_ok-count.ensures.items
