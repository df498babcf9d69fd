use Rattle.std.proofs.Common.{List, Option, ℕ}
use Rattle.wal_reader.specs.LogReader.{left_of, reader_state}
use Rattle.wal_reader.specs.SoFar.{ReadSoFar}
use Rattle.wal_reader.specs.declared.found.FoundRecord.{FoundRecord}
use Rattle.waldump_text.proofs.DumpLaws.{end_of}
use Rattle.waldump_text.proofs.ListingLaws.{IsWithin, Lists}
use Rattle.waldump_text.proofs.quiet.count_records.Given as goal

abbrev pub invariant-records : goal.invariant-records
invariant-records g l = record {
  found : List FoundRecord;
  so_far : ReadSoFar g.D.Disk.tape g.D.Disk.moment g.D.Disk.faults l.fn.geometry l.filter.start.0
      (end_of l.filter) l.initial.disk l.disk l.reader found;
  lists : (taken : Option (List ℕ)) → Lists l.filter found taken taken l.count;
  within : IsWithin l.filter.limit l.count;
}

abbrev pub decreases-records : goal.decreases-records
decreases-records g l = left_of (reader_state l.reader)
