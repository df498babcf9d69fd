use Rattle.std.proofs.Common.{◌≡◌, ◌++◌, take, drop, None, All}
use Rattle.wal_spelling.specs.Fitting.{HeaderFits}
use Rattle.wal_spelling.specs.Spelling.{block_headers}
use Rattle.wal_spelling.proofs.blocks.put_block_headers.Given as goal

abbrev pub invariant-loop-block : goal.invariant-loop-block
invariant-loop-block l = record {
  put : l.out.items ++ block_headers l.before (drop l.block-index l.blocks) ≡ l.initial.out.items ++ block_headers None l.blocks;
  fits : All HeaderFits (take l.block-index l.blocks);
}
