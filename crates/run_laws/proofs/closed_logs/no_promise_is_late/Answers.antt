use Rattle.run_laws.proofs.Timeliness.{timely}
use Rattle.run_laws.proofs.closed_logs.no_promise_is_late.Goals as goal

pub returns : goal.returns
returns c = record { timely = timely }
