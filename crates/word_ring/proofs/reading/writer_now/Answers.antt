use Rattle.std.proofs.Common.{List, ℕ, refl, sym, ap}
use Rattle.wal_rule.specs.declared.writer.LogWriter.{LogWriter}
use Rattle.wal_rule.specs.SeatedPasses.{began_of, opening_of}
use Rattle.wal_rule.proofs.DeviceSteps.{lends}
use Rattle.word_ring.proofs.reading.writer_now.Goals as goal

pub slot_mut-writer-requires : goal.slot_mut-writer-requires
slot_mut-writer-requires g c = (
  c.args.seated.now.seated.of_table,
  (
    c.requires.hand.1,
    lends g.D.Disk.tape g.D.Disk.moment g.D.Disk.faults (opening_of c.args.seated.now)
        (began_of g.D.Disk.tape c.args.seated.now) c.args.seated.now.seat.me c.requires.hand.0
        c.requires.hand.1 c.requires.hand.2,
  ),
)

pub returns-clause-same : goal.returns-clause-same
returns-clause-same g c = record {
  same_table = refl;
  same_seat = ap (λ (s : List (ℕ × LogWriter g.row.D.Denot)).
      record c.args.seated.now.seat { me = (c.args.seated.now.seat.me.0, s) })
      (sym c.slot_mut-writer.ensures.value);
}
