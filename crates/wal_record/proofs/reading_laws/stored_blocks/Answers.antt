use Rattle.wal_record.proofs.StoredBlocks.{stored_fits}
use Rattle.wal_record.proofs.reading_laws.stored_blocks.Goals as goal

pub returns : goal.returns
returns c = record {
  manager = λ bytes r e. (stored_fits bytes r e).manager;
  forks = λ bytes r e. (stored_fits bytes r e).forks;
  images = λ bytes r e. (stored_fits bytes r e).images;
}
