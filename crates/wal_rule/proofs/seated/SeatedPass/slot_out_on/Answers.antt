use Rattle.std.proofs.Common.{arith, subst}
use Rattle.machine_state.specs.Words.{Opening}
use Rattle.wal_rule.specs.Ruled.{IsOutOf}
use Rattle.wal_rule.proofs.TableSteps.{goes_out_there}
use Rattle.wal_rule.proofs.seated.SeatedPass.slot_out_on.Goals as goal

pub load-requires : goal.load-requires
load-requires g c = (
  c.args.self.now.seated.of_table,
  omega (arith, c.args.self.now.table.now.wide),
  goes_out_there g.D.Disk.tape g.D.Disk.moment g.D.Disk.faults _ _ _ _ _ c.args.self.now.seated.live
      c.requires.may _ c.requires.began _ c.args.self.now.seated.own,
)

pub returns-clause-out : goal.returns-clause-out
returns-clause-out g c =
    let e = c.load.ensures in (
      c.load.result,
      e.2.0,
      subst (λ (o : Opening). IsOutOf g.D.Disk.tape g.D.Disk.moment g.D.Disk.faults
          g.B.BeganOn.began o c.load.result e.2.0 c.args.self.now.seat.me c.load.new.seat.me)
          c.args.self.now.seated.own e.2.1,
    )
