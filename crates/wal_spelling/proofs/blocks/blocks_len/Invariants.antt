use Rattle.std.proofs.Common.{◌≡◌, ◌+◌, length, drop, None}
use Rattle.std.specs.List.{flat_map}
use Rattle.wal_spelling.specs.Spelling.{block_headers, block_payload}
use Rattle.wal_spelling.proofs.blocks.blocks_len.Given as goal

abbrev pub invariant-loop-block : goal.invariant-loop-block
invariant-loop-block l =
    l.len + (length (block_headers l.before (drop l.block-index l.blocks)) + length (flat_map block_payload (drop l.block-index l.blocks)))
    ≡ length (block_headers None l.blocks) + length (flat_map block_payload l.blocks)
