use Rattle.reopened_log_laws.proofs.SureDisks.{sure_entries_are_read}
use Rattle.reopened_log_laws.proofs.laws.sure_entries_are_read.Goals as goal

pub returns : goal.returns
returns c = sure_entries_are_read
