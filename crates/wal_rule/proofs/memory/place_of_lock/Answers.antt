use Rattle.wal_rule.proofs.WordPlaceLaws.{place_of_lock}
use Rattle.wal_rule.proofs.memory.place_of_lock.Goals as goal

pub returns-clause-place : goal.returns-clause-place
returns-clause-place c = place_of_lock c.args.lock c.requires
