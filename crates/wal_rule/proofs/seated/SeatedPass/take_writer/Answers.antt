use Rattle.std.proofs.Common.{subst}
use Rattle.wal_rule.specs.Ruled.{IsOutOf}
use Rattle.wal_rule.specs.SeatedPasses.{began_of, opening_of}
use Rattle.wal_rule.specs.Tables.{began_of_table, opening_of_table}
use Rattle.wal_rule.proofs.Taken.{taken}
use Rattle.wal_rule.proofs.seated.SeatedPass.take_writer.Goals as goal

pub returns-clause-taken : goal.returns-clause-taken
returns-clause-taken g c = λ _.
    let old = c.args.self.now in
    let mid = c.take_write_turn.new.self in
    let new = c.slot_out.new.self in
    let out = c.slot_out.ensures.out in
    let steps = c.take_write_turn.ensures.steps in
    taken g.D.Disk.tape g.D.Disk.moment g.D.Disk.faults (opening_of old)
    (began_of g.D.Disk.tape old) old.seat.me mid.seat.me new.seat.me c.requires.none_out
    c.take_write_turn.result c.if-take_write_turn-ne0.false steps.me_is out.0 out.1
    (subst (λ t. IsOutOf g.D.Disk.tape g.D.Disk.moment g.D.Disk.faults
    (began_of_table g.D.Disk.tape t.now) (opening_of_table t.now) out.0 out.1 mid.seat.me
    new.seat.me) steps.same_table out.2)
