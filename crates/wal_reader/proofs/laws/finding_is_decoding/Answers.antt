use Rattle.wal_reader.proofs.FindsLaws.{finding_is_decoding}
use Rattle.wal_reader.proofs.laws.finding_is_decoding.Goals as goal

pub returns : goal.returns
returns c = finding_is_decoding
