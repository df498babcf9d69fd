use Rattle.std.proofs.Common.{◌≡◌, ◌++◌, take, drop, All}
use Rattle.std.specs.List.{flat_map}
use Rattle.wal_spelling.specs.Fitting.{PayloadFits}
use Rattle.wal_spelling.specs.Spelling.{block_payload}
use Rattle.wal_spelling.proofs.blocks.put_payloads.Given as goal

abbrev pub invariant-loop-block : goal.invariant-loop-block
invariant-loop-block l = record {
  put : l.out.items ++ flat_map block_payload (drop l.block-index l.blocks) ≡ l.initial.out.items ++ flat_map block_payload l.blocks;
  fits : All PayloadFits (take l.block-index l.blocks);
}
