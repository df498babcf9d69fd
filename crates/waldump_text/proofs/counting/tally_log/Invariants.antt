use Rattle.std.proofs.Common.{List}
use Rattle.wal_reader.specs.LogReader.{left_of, reader_state}
use Rattle.wal_reader.specs.SoFar.{ReadSoFar}
use Rattle.wal_reader.specs.declared.found.FoundRecord.{FoundRecord}
use Rattle.waldump_text.specs.Tally.{TallyFits}
use Rattle.waldump_text.proofs.CountingLaws.{IsTallied}
use Rattle.waldump_text.proofs.DumpLaws.{end_of}
use Rattle.waldump_text.proofs.ListingLaws.{IsWithin}
use Rattle.waldump_text.proofs.counting.tally_log.Given as goal

abbrev pub invariant-records : goal.invariant-records
invariant-records g l = record {
  found : List FoundRecord;
  so_far : ReadSoFar g.D.Disk.tape g.D.Disk.moment g.D.Disk.faults l.fn.geometry l.filter.start.0
      (end_of l.filter) l.initial.disk l.disk l.reader found;
  tallied : IsTallied l.filter found l.tally;
  sound : TallyFits l.tally;
  within : IsWithin l.filter.limit l.tally.all.records;
}

abbrev pub decreases-records : goal.decreases-records
decreases-records g l = left_of (reader_state l.reader)
