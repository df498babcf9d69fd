use Rattle.std.proofs.Common.{arith}
use Rattle.byte_position.proofs.Rising.{address_of-bound}
use Rattle.reserve_lock.proofs.StartLaws.{end_on_page}
use Rattle.reserve_lock.proofs.starting.end_behind.Goals as goal

pub overflow_add-result : goal.overflow_add-result
overflow_add-result c =
    let bound = address_of-bound c.args.geometry c.requires.valid c.args.at in
    omega (arith, bound, c.requires.start, c.requires.within, c.if-start-room-le-PAGE_SIZE.true)

pub returns-then-start-room-le-PAGE_SIZE : goal.returns-then-start-room-le-PAGE_SIZE
returns-then-start-room-le-PAGE_SIZE c =
    end_on_page c.args.geometry
    c.requires.valid
    c.args.at c.args.start.0 c.args.room c.requires.start c.requires.some
    c.if-start-room-le-PAGE_SIZE.true
