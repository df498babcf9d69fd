use Rattle.wal_rule.proofs.MetNumbers.{flushed_met}
use Rattle.wal_rule.proofs.seated.SeatedPass.load_flushed.Goals as goal

pub returns-clause-furthest : goal.returns-clause-furthest
returns-clause-furthest g c = flushed_met c.args.self.now.seat.me.0 c.loads.result c.loads.ensures.met
