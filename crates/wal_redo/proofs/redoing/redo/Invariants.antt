use Rattle.std.proofs.Common.{◌≡◌, ◌*◌, ◌≤◌, List, length, None}
use Rattle.std.specs.Prelude.{IsTrue}
use Rattle.wal_reader.specs.LogReader.{left_of, reader_state}
use Rattle.wal_reader.specs.SoFar.{ReadSoFar}
use Rattle.wal_reader.specs.declared.found.FoundRecord.{FoundRecord}
use Rattle.wal_redo.specs.Calls.{CallsAll}
use Rattle.wal_redo.specs.Images.{puts_in}
use Rattle.wal_redo.specs.Redo.{PutsAll}
use Rattle.wal_redo.proofs.redoing.redo.Given as goal

abbrev pub invariant-records : goal.invariant-records
invariant-records g l = record {
  found : List FoundRecord;
  so_far : ReadSoFar g.D.Disk.tape g.D.Disk.moment g.D.Disk.faults l.fn.geometry l.fn.start.0 None
      l.initial.disk l.disk l.reader found;
  redoes : PutsAll (g.B.Blocks.pages l.initial.blocks) (g.B.Blocks.pages l.blocks) (puts_in found)
      l.count;
  calls : CallsAll (g.B.Blocks.calls l.initial.blocks) (g.B.Blocks.calls l.blocks) (puts_in found);
  bounded : l.count ≤ 33 * length found;
  store_faults : g.B.Blocks.faults l.blocks ≡ g.B.Blocks.faults l.initial.blocks;
  never : IsTrue (g.B.Blocks.never_fails l.initial.blocks)
      → IsTrue (g.B.Blocks.never_fails l.blocks);
}

abbrev pub decreases-records : goal.decreases-records
decreases-records g l = left_of (reader_state l.reader)
