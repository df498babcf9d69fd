use Rattle.run_laws.proofs.Fronts.{no_other_words}
use Rattle.run_laws.proofs.closed_logs.closed_logs_leave_no_other_words.Goals as goal

pub returns : goal.returns
returns c = record { words = no_other_words }
