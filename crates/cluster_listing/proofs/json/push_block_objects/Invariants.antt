use Rattle.std.proofs.Common.{◌≡◌, ◌++◌, [], drop}
use Rattle.cluster_listing.specs.Json.{blocks_behind}
use Rattle.cluster_listing.proofs.json.push_block_objects.Given as goal

abbrev pub invariant-loop-block : goal.invariant-loop-block
invariant-loop-block l = l.line.items ++ blocks_behind l.before (drop l.block-index l.blocks) ≡ l.initial.line.items ++ blocks_behind [] l.blocks
