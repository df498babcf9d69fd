use Rattle.wal_record.proofs.SpellingReads.{one_record}
use Rattle.wal_record.proofs.laws.body_knows_its_record.Goals as goal

pub returns : goal.returns
returns c = one_record
