use Rattle.wal_log_laws.proofs.Survivors.{sealed_survives, survives}
use Rattle.wal_log_laws.proofs.laws.sealed_records_survive.Goals as goal

pub returns-clause-sealed : goal.returns-clause-sealed
returns-clause-sealed g c = sealed_survives g.D.Disk.tape

pub returns-clause-entries : goal.returns-clause-entries
returns-clause-entries g c = survives
