use Rattle.reopened_log_laws.proofs.SureDisks.{reopened_settlings_stay_sure, stopped_settlings_stay_sure, uncalled_disks_stay_sure}
use Rattle.reopened_log_laws.proofs.laws.disks_stay_sure.Goals as goal

pub returns-clause-uncalled : goal.returns-clause-uncalled
returns-clause-uncalled c = uncalled_disks_stay_sure

pub returns-clause-stopped : goal.returns-clause-stopped
returns-clause-stopped c = stopped_settlings_stay_sure

pub returns-clause-reopened : goal.returns-clause-reopened
returns-clause-reopened c = reopened_settlings_stay_sure
