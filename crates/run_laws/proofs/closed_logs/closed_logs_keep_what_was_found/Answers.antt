use Rattle.run_laws.proofs.FoundKept.{keep}
use Rattle.run_laws.proofs.closed_logs.closed_logs_keep_what_was_found.Goals as goal

pub returns : goal.returns
returns c = record { keep = keep }
