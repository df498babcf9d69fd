use Rattle.wal_record.proofs.HeaderBytes.{header_of}
use Rattle.wal_record.proofs.reading_laws.header_bytes.Goals as goal

pub returns : goal.returns
returns c = record {
  manager = λ bytes r read. (header_of bytes r read).manager;
  info = λ bytes r read. (header_of bytes r read).info;
}
