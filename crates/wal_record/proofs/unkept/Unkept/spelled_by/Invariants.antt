use Rattle.wal_record.specs.Headers.{headers_said}
use Rattle.wal_record.specs.Reading.{record_of}
use Rattle.wal_record.proofs.unkept.Unkept.spelled_by.Given as goal

abbrev pub ghosts-picked : goal.ghosts-picked
ghosts-picked a = record {
  spelled = record_of a._bytes.now (headers_said a._heads.now a._headers);
}
