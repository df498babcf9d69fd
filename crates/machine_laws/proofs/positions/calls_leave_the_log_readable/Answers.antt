use Rattle.machine_laws.proofs.PositionCalls.{create_keeps, write_keeps, sync_keeps}
use Rattle.machine_laws.proofs.positions.calls_leave_the_log_readable.Goals as goal

pub returns-clause-create : goal.returns-clause-create
returns-clause-create c = create_keeps

pub returns-clause-write : goal.returns-clause-write
returns-clause-write c = write_keeps

pub returns-clause-sync : goal.returns-clause-sync
returns-clause-sync c = sync_keeps
