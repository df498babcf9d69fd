use Rattle.std.proofs.Common.{arith}
use Rattle.wal_spelling.proofs.RightBlocks.{right_parts}
use Rattle.wal_spelling.proofs.BlockSteps.{on_ok}
use Rattle.wal_spelling.proofs.blocks.put_block_header.Goals as goal

pub returns-clause-fits : goal.returns-clause-fits
returns-clause-fits c =
    let relation = c.put_relation.ensures.fits in
    let right = right_parts 0 c.args.block.now c.requires in
    on_ok c.extend_from_slice-2.result (record {
      numbers = record { id = omega arith; tablespace = relation.0; database = relation.1; relation = relation.2; fork = omega (arith, right.fork_le); number = omega arith };
      hole = c.put_image_header.ensures.fits;
    })
