use Rattle.std.proofs.Common.{◌≡◌, ◌≤◌, take}
use Rattle.std.specs.Prelude.{IsTrue}
use Rattle.wal_redo.specs.Calls.{CallsAll}
use Rattle.wal_redo.specs.Images.{puts_of}
use Rattle.wal_redo.specs.Redo.{PutsAll}
use Rattle.wal_redo.proofs.page_images.put_images.Given as goal

abbrev pub invariant-loop-reference : goal.invariant-loop-reference
invariant-loop-reference g l = record {
  puts : PutsAll (g.B.Blocks.pages l.initial.blocks) (g.B.Blocks.pages l.blocks) (puts_of (take l.reference-index l.references)) l.count;
  called : CallsAll (g.B.Blocks.calls l.initial.blocks) (g.B.Blocks.calls l.blocks) (puts_of (take l.reference-index l.references));
  few : l.count ≤ l.reference-index;
  faults : g.B.Blocks.faults l.blocks ≡ g.B.Blocks.faults l.initial.blocks;
  never : IsTrue (g.B.Blocks.never_fails l.initial.blocks) → IsTrue (g.B.Blocks.never_fails l.blocks);
}
