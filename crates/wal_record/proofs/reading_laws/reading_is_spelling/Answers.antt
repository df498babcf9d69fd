use Rattle.wal_record.proofs.Failing.{reads_spelled, refuses_failing}
use Rattle.wal_record.proofs.reading_laws.reading_is_spelling.Goals as goal

pub returns : goal.returns
returns c = record { read = reads_spelled; refused = refuses_failing }
