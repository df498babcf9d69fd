use Rattle.pgwal_c.proofs.Crossing.{disk_send, session_handle_send}
use Rattle.pgwal_c.proofs.laws.handles_may_cross.Goals as goal

pub returns-clause-session : goal.returns-clause-session
returns-clause-session c = session_handle_send

pub returns-clause-disk : goal.returns-clause-disk
returns-clause-disk c = disk_send
