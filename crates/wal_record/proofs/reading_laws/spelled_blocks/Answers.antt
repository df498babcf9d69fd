use Rattle.wal_record.proofs.SpelledBlocks.{forks_spelled, images_spelled}
use Rattle.wal_record.proofs.reading_laws.spelled_blocks.Goals as goal

pub returns : goal.returns
returns c = record { forks = forks_spelled; images = images_spelled }
