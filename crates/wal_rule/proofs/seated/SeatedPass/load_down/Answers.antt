use Rattle.std.proofs.Common.{subst}
use Rattle.segment_disk.specs.Cause.{Rose}
use Rattle.machine_state.specs.Words.{Opening}
use Rattle.wal_rule.proofs.MetNumbers.{down_met_known, down_met_rose}
use Rattle.wal_rule.proofs.seated.SeatedPass.load_down.Goals as goal

pub returns-clause-known : goal.returns-clause-known
returns-clause-known g c = down_met_known c.args.self.now.seat.me.0 c.loads.result c.loads.ensures.met

pub returns-clause-rose : goal.returns-clause-rose
returns-clause-rose g c = λ some_are.
    subst (λ (o : Opening). Rose o.faults c.loads.result) c.args.self.now.seated.own
    (down_met_rose c.args.self.now.seat.me.0 c.loads.result c.loads.ensures.met some_are)
