use Rattle.wal_log_laws.proofs.LoneCalls.{first_alone, still_alone}
use Rattle.wal_log_laws.proofs.unhindered.first_passes_are_alone.Goals as goal

pub returns-clause-first : goal.returns-clause-first
returns-clause-first c = first_alone

pub returns-clause-calls : goal.returns-clause-calls
returns-clause-calls c = λ old new keeps.
    still_alone old new keeps (c.calls_keep_numbers.ensures old new keeps)
