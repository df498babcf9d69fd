-- A record that was read has a line.
use Rattle.std.proofs.Common.{arith}
use Rattle.wal_record.proofs.SpelledBlocks.{forks_spelled, images_spelled}
use Rattle.wal_reader.specs.declared.found.FoundRecord.{FoundRecord}
use Rattle.wal_reader.specs.Spelled.{IsSpelled}
use Rattle.waldump_text.specs.Listing.{IsListable, listed_of}

pub IsListable-from_spelled : (found : FoundRecord) → IsSpelled found → IsListable (listed_of found)
unfolding IsSpelled
IsListable-from_spelled found is = record {
  manager = is.spelled.manager;
  forks = forks_spelled is.bytes found.value is.spelled;
  images = omega (arith, images_spelled is.bytes found.value is.spelled, is.length_is);
}
