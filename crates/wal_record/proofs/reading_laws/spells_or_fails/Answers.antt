use Rattle.wal_record.proofs.Failing.{not_both, one_cause, one_record, spells_or_fails}
use Rattle.wal_record.proofs.reading_laws.spells_or_fails.Goals as goal

pub returns : goal.returns
returns c = record { either = spells_or_fails; one_record = one_record; one_cause = one_cause; not_both = not_both }
