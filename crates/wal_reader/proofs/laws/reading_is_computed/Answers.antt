use Rattle.wal_reader.proofs.ReadAtLaws.{read_at_of, reads_at}
use Rattle.wal_reader.proofs.laws.reading_is_computed.Goals as goal

pub returns : goal.returns
returns c = λ size pages end place result. (read_at_of size pages end place result, reads_at size pages end place result)
