use Rattle.std.proofs.Common.{◌++◌, drop}
use Rattle.waldump_text.specs.Listing.{blocks_text}
use Rattle.waldump_text.specs.Put.{HasPut}
use Rattle.waldump_text.proofs.block_refs.put_blocks.Given as goal

abbrev pub invariant-loop-block : goal.invariant-loop-block
invariant-loop-block g l =
    HasPut (g.O.Sink.taken l.initial.out) (g.O.Sink.taken l.out) (g.O.Sink.faults l.initial.out) (g.O.Sink.faults l.out) (l.initial.buffer ++ blocks_text l.blocks) (l.buffer ++ blocks_text (drop l.block-index l.blocks))
