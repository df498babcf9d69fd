use Rattle.std.proofs.Common.{None, arith}
use Rattle.wal_spelling.proofs.RightBlocks.{each_right, blocks_len_le}
use Rattle.wal_spelling.proofs.BlockSteps.{lengths_further}
use Rattle.wal_spelling.proofs.blocks.blocks_len.Goals as goal

pub block_len-len-requires : goal.block_len-len-requires
block_len-len-requires c = rw c.block-item.is (each_right 0 c.args.blocks.now c.requires c.loop-block.block-index c.block-item.result (omega arith))

pub overflow_add-len : goal.overflow_add-len
overflow_add-len c =
    let whole = blocks_len_le None 0 c.args.blocks.now (omega arith) c.requires in
    let step = lengths_further c.loop-block.before c.args.blocks.now c.loop-block.block-index c.block-item.result (omega arith) c.block-item.is in
    record { fits = omega (arith, whole, step, c.loop-block.invariant, c.block_len-len.ensures) }

pub returns-clause-bound : goal.returns-clause-bound
returns-clause-bound c = omega (arith, c.loop-block.invariant, blocks_len_le None 0 c.args.blocks.now (omega arith) c.requires)
