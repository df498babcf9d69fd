use Rattle.std.proofs.Common.{arith}
use Rattle.wal_spelling.specs.Fitting.{HeaderFits}
use Rattle.wal_spelling.proofs.BlockSteps.{headers_further, holds_all, holds_further, put_further}
use Rattle.wal_spelling.proofs.blocks.put_block_headers.Goals as goal

pub loop-block-preserved : goal.loop-block-preserved
loop-block-preserved c =
    let b = c.block-item.result in
    let left = headers_further c.loop-block.before c.args.blocks.now c.loop-block.block-index b (omega arith) c.block-item.is in
    record {
      put = put_further _ _ _ _ _ _ left c.in_ok-put_block_header.ensures.ok c.loop-block.invariant.put;
      fits = holds_further HeaderFits c.args.blocks.now c.loop-block.block-index b (omega arith) c.block-item.is c.loop-block.invariant.fits c.in_ok-put_block_header.ensures.fits;
    }

pub returns-clause-fits : goal.returns-clause-fits
returns-clause-fits c = holds_all HeaderFits c.args.blocks.now c.loop-block.block-index (omega arith) c.loop-block.invariant.fits
