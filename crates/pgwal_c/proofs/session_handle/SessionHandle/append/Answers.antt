use Rattle.std.proofs.Common.{arith, subst}
use Rattle.wal_spelling.specs.Spelling.{Assembled, assembled}
use Rattle.pgwal_c.specs.Told.{TellsAppend, record_asked}
use Rattle.pgwal_c.proofs.Telling.{held_again, known_behind, told_behind_room, untold}
use Rattle.pgwal_c.proofs.session_handle.SessionHandle.append.Goals as goal

pub returns-in-0-clause-tells : goal.returns-in-0-clause-tells
returns-in-0-clause-tells c =
    told_behind_room
    (assembled (record_asked (c.args.self.now.given).blocks c.args.call.now c.args.data.now))
    c.args.self.now c.make_room.new.self c.append_body.new.self
    (held_again c.args.self.now.session c.assemble.new.self.session c.make_room.new.self.session
    c.assemble.ensures.goes_on c.make_room.ensures.goes_on) c.args.call.now
    c.make_room.new.call c.append_body.new.call c.append_body.result c.make_room.ensures.start
    (subst (λ (body : Assembled). TellsAppend body c.make_room.new.self c.append_body.new.self
    c.make_room.new.call c.append_body.new.call c.append_body.result) c.in-Ok.ensures.body
    c.append_body.ensures.tells)

pub returns-clause-tells : goal.returns-clause-tells
returns-clause-tells c =
    let body : Assembled =
    assembled (record_asked (c.args.self.now.given).blocks c.args.call.now c.args.data.now) in
    untold body c.args.self.now c.make_room.new.self c.args.call.now c.make_room.new.call
    c.make_room.result (omega arith) c.make_room.ensures.other
    (λ down. known_behind body c.args.self.now c.assemble.new.self c.make_room.new.self
    c.assemble.ensures.goes_on (c.make_room.ensures.down down)) c.make_room.ensures.gone
    (held_again c.args.self.now.session c.assemble.new.self.session c.make_room.new.self.session
    c.assemble.ensures.goes_on c.make_room.ensures.goes_on) c.make_room.ensures.start
