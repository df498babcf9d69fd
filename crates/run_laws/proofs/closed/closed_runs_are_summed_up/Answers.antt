use Rattle.run_laws.proofs.ClosedRuns.{bytes_told, records_counted, rooms_within}
use Rattle.run_laws.proofs.closed.closed_runs_are_summed_up.Goals as goal

pub returns-clause-records : goal.returns-clause-records
returns-clause-records g c = records_counted

pub returns-clause-bytes : goal.returns-clause-bytes
returns-clause-bytes g c = bytes_told

pub returns-clause-within : goal.returns-clause-within
returns-clause-within g c = rooms_within
