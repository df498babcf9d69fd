use Rattle.std.proofs.Common.{arith}
use Rattle.wal_spelling.specs.Fitting.{PayloadFits}
use Rattle.wal_spelling.proofs.BlockSteps.{payloads_further, holds_all, holds_further, put_further}
use Rattle.wal_spelling.proofs.blocks.put_payloads.Goals as goal

pub loop-block-preserved : goal.loop-block-preserved
loop-block-preserved c =
    let b = c.block-item.result in
    let left = payloads_further c.args.blocks.now c.loop-block.block-index b (omega arith) c.block-item.is in
    record {
      put = put_further _ _ _ _ _ _ left c.in_ok-put_payload.ensures.ok c.loop-block.invariant.put;
      fits = holds_further PayloadFits c.args.blocks.now c.loop-block.block-index b (omega arith) c.block-item.is c.loop-block.invariant.fits c.in_ok-put_payload.ensures.fits;
    }

pub returns-clause-fits : goal.returns-clause-fits
returns-clause-fits c = holds_all PayloadFits c.args.blocks.now c.loop-block.block-index (omega arith) c.loop-block.invariant.fits
