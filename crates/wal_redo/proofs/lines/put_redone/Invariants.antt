use Rattle.std.proofs.Common.{◌++◌, length}
use Rattle.std.specs.List.{flat_map}
use Rattle.waldump_text.specs.Put.{HasPut}
use Rattle.wal_redo.specs.MemBlocks.{stored_pages}
use Rattle.wal_redo.specs.RedoText.{block_line, counts_line, redo_text}
use Rattle.wal_redo.proofs.lines.put_redone.Given as goal

-- the lines of the blocks that are left are still to be put
abbrev pub invariant-loop-block : goal.invariant-loop-block
invariant-loop-block g l = record {
  put : HasPut (g.O.Sink.taken l.initial.out) (g.O.Sink.taken l.out) (g.O.Sink.faults l.initial.out) (g.O.Sink.faults l.out)
      (redo_text (stored_pages l.blocks) l.images)
      (flat_map (λ e. block_line (e.0, e.1.value)) l.block-iterator ++ counts_line l.images (length (stored_pages l.blocks)));
}
