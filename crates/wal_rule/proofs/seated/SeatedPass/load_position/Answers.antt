use Rattle.wal_rule.proofs.MetNumbers.{position_met}
use Rattle.wal_rule.proofs.seated.SeatedPass.load_position.Goals as goal

pub returns-clause-rises : goal.returns-clause-rises
returns-clause-rises g c = (position_met c.args.self.now.seat.me.0 c.loads.result c.loads.ensures.met c.args.self.now.seated.live).0

pub returns-clause-low : goal.returns-clause-low
returns-clause-low g c = (position_met c.args.self.now.seat.me.0 c.loads.result c.loads.ensures.met c.args.self.now.seated.live).1
