use Rattle.std.proofs.Common.{◌≡◌, ◌-◌, ◌^◌, ◌≤◌}
use Rattle.wal_reader.specs.LogReader.{reader_state}
use Rattle.waldump_text.proofs.ListingLaws.{IsWithin}
use Rattle.cluster_listing.specs.Past.{end_of}
use Rattle.cluster_listing.specs.Taking.{TookMore}
use Rattle.cluster_listing.proofs.WalkLaws.{HandsOn}
use Rattle.cluster_listing.proofs.walking.walk.Given as goal

abbrev pub invariant-records : goal.invariant-records
invariant-records g l = record {
  sized : (reader_state l.reader).size ≡ l.fn.geometry;
  hands : HandsOn (g.D.Disk.tape l.initial.disk) l.fn.geometry l.filter l.reader (TookMore g.V.TakesRecords.took l.initial.taker l.taker) l.count;
  within : IsWithin l.filter.limit l.count;
  ended : (reader_state l.reader).end ≡ end_of l.filter;
  few : l.count ≤ l.turns;
  tape : g.D.Disk.tape l.disk ≡ g.D.Disk.tape l.initial.disk;
  moment : g.D.Disk.moment l.disk ≡ g.D.Disk.moment l.initial.disk;
  faults : g.D.Disk.faults l.disk ≡ g.D.Disk.faults l.initial.disk;
}

abbrev pub decreases-records : goal.decreases-records
decreases-records g l = 2 ^ 64 - l.turns
