use Rattle.std.proofs.Common.{◌≡◌, ◌+◌, ◌≤◌, drop}
use Rattle.std.specs.Prelude.{option_map}
use Rattle.wal_spelling.specs.Refusal.{first_bad_block}
use Rattle.wal_spelling.proofs.refusing.first_bad_block.Given as goal

abbrev pub invariant-loop-block : goal.invariant-loop-block
invariant-loop-block l = record {
  so_far : first_bad_block 0 l.blocks ≡ option_map (λ k. k + l.index) (first_bad_block l.floor (drop l.block-index l.blocks));
  few : l.index ≤ l.floor;
  floor : l.floor ≤ 33;
}
