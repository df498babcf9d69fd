use Rattle.written_log_laws.proofs.FoundImages.{found_logs_stand_in_images}
use Rattle.written_log_laws.proofs.FoundLogs.{found_logs_read_as_log}
use Rattle.written_log_laws.proofs.laws.found_logs_stand.Goals as goal

pub returns-clause-images : goal.returns-clause-images
returns-clause-images c = found_logs_stand_in_images

pub returns-clause-disks : goal.returns-clause-disks
returns-clause-disks c = found_logs_read_as_log
