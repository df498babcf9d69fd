use Rattle.run_laws.proofs.LastFlush.{flush_reaches}
use Rattle.run_laws.proofs.endings.last_flush_reaches.Goals as goal

pub returns : goal.returns
returns c = record { reach = flush_reaches }
