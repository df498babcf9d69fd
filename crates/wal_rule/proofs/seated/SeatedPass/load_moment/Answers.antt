use Rattle.wal_rule.proofs.MetNumbers.{moment_met}
use Rattle.wal_rule.proofs.seated.SeatedPass.load_moment.Goals as goal

pub returns-clause-latest : goal.returns-clause-latest
returns-clause-latest g c = moment_met c.args.self.now.seat.me.0 c.loads.result c.loads.ensures.met
