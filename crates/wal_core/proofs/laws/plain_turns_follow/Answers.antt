use Rattle.wal_core.proofs.EachPlace.{step_follows}
use Rattle.wal_core.proofs.laws.plain_turns_follow.Goals as goal

pub returns : goal.returns
returns c = step_follows
