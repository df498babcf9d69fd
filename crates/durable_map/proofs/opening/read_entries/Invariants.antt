use Rattle.std.proofs.Common.{◌≡◌, List}
use Rattle.std.specs.Prelude.{IfSome}
use Rattle.wal_reader.specs.LogReader.{left_of, reader_state}
use Rattle.wal_reader.specs.declared.found.FoundRecord.{FoundRecord}
use Rattle.durable_map.specs.Changes.{MapChange}
use Rattle.durable_map.specs.Opening.{AreSaid}
use Rattle.durable_map.specs.Stores.{AreOf}
use Rattle.durable_map.proofs.ReadLaws.{HasGiven}
use Rattle.durable_map.proofs.opening.read_entries.Given as goal

abbrev pub invariant-records : goal.invariant-records
invariant-records g l = record {
  records : List FoundRecord;
  changes : List MapChange;
  sized : (reader_state l.reader).size ≡ l.fn.geometry;
  said : AreSaid records changes;
  held : AreOf changes l.entries;
  given : IfSome (g.D.Disk.tape l.initial.disk) (HasGiven l.fn.geometry l.reader records);
  tape : g.D.Disk.tape l.disk ≡ g.D.Disk.tape l.initial.disk;
  moment : g.D.Disk.moment l.disk ≡ g.D.Disk.moment l.initial.disk;
  faults : g.D.Disk.faults l.disk ≡ g.D.Disk.faults l.initial.disk;
}

abbrev pub decreases-records : goal.decreases-records
decreases-records g l = left_of (reader_state l.reader)
