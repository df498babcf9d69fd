use Rattle.std.proofs.Common.{◌≡◌, List, None}
use Rattle.wal_reader.specs.LogReader.{left_of, reader_state}
use Rattle.wal_reader.specs.SoFar.{ReadSoFar}
use Rattle.wal_reader.specs.declared.found.FoundRecord.{FoundRecord}
use Rattle.written_log_laws.specs.FoundLog.{end_behind}
use Rattle.wal_stream.specs.Sending.{IsWordEnd}
use Rattle.wal_stream.proofs.reading.read_list.Given as goal

abbrev pub invariant-records : goal.invariant-records
invariant-records g l = record {
  found : List FoundRecord;
  so_far : ReadSoFar g.D.Disk.tape g.D.Disk.moment g.D.Disk.faults l.fn.geometry l.fn.geometry None
      l.initial.disk l.disk l.reader found;
  end_is : l.end.0 ≡ end_behind l.fn.geometry found;
  whole : IsWordEnd l.end.0;
}

abbrev pub decreases-records : goal.decreases-records
decreases-records g l = left_of (reader_state l.reader)
