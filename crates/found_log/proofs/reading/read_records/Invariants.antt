use Rattle.std.proofs.Common.{List, None}
use Rattle.wal_reader.specs.LogReader.{left_of, reader_state}
use Rattle.wal_reader.specs.SoFar.{ReadSoFar}
use Rattle.wal_reader.specs.declared.found.FoundRecord.{FoundRecord}
use Rattle.found_log.specs.Reading.{EndsRecords}
use Rattle.found_log.proofs.reading.read_records.Given as goal

abbrev pub invariant-records : goal.invariant-records
invariant-records g l = record {
  records : List FoundRecord;
  so_far : ReadSoFar g.D.Disk.tape g.D.Disk.moment g.D.Disk.faults l.fn.geometry l.fn.geometry None
      l.initial.disk l.disk l.reader records;
  ends : EndsRecords l.fn.geometry l.fn.made records l.end;
}

abbrev pub decreases-records : goal.decreases-records
decreases-records g l = left_of (reader_state l.reader)
