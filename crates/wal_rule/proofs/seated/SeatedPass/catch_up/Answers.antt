use Rattle.std.proofs.Common.{arith, subst}
use Rattle.segment_disk.specs.Tape.{Tape}
use Rattle.wal_rule.specs.Called.{IsCalled}
use Rattle.wal_rule.specs.Tables.{opening_of_table}
use Rattle.wal_rule.proofs.DeviceSteps.{call_steady}
use Rattle.wal_rule.proofs.TableSteps.{catches_up_there}
use Rattle.wal_rule.proofs.SeatedSteps.{numbered_behind, seated_behind}
use Rattle.wal_rule.proofs.seated.SeatedPass.catch_up.Goals as goal

pub load-requires : goal.load-requires
load-requires g c = (
  c.args.self.now.seated.of_table,
  omega (arith, c.args.self.now.table.now.wide),
  catches_up_there g.D.Disk.tape g.D.Disk.moment g.D.Disk.faults
      (opening_of_table c.args.self.now.table.now) _ _ _ c.args.self.now.seat.me
      c.args.self.now.seated.live g.B.OfCall.call g.B.OfCall.ended c.args.self.now.seated.own
      (subst (λ (d : Rattle.std.specs.Prelude.Option Tape). IsCalled g.D.Disk.tape
      g.D.Disk.moment g.D.Disk.faults d (opening_of_table c.args.self.now.table.now)
      g.B.OfCall.call g.B.OfCall.ended c.args.self.now.seat.me)
      c.requires.began c.requires.called)
      c.requires.may _ c.requires.began _ c.args.self.now.seated.own,
)

pub invariant_of-self : goal.invariant_of-self
invariant_of-self g c =
    let old = c.args.self.now in
    let new = c.load.new.seat in
    let ended = c.load.ensures.2.0 in
    let keeps = call_steady g.B.OfCall.call ended.outcome old.seat.me.0 in
    record {
      seated = seated_behind _ _ old.number old.seat new old.seated old.numbered
          c.load.ensures.0 _ ended.view_is keeps c.load.ensures.2.1;
      numbered = numbered_behind _ _ old.number old.seat new old.seated old.numbered
          c.load.ensures.0 _ ended.view_is keeps c.load.ensures.2.1;
    }
