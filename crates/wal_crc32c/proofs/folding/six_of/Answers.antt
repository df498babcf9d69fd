use Rattle.wal_crc32c.proofs.Spread.{six_parts}
use Rattle.wal_crc32c.proofs.folding.six_of.Goals as goal

pub returns : goal.returns
returns c =
    rw (c.part.ensures, c.part-2.ensures, c.part-3.ensures, c.part-4.ensures, c.part-5.ensures, c.part-6.ensures)
    (six_parts c.args.block.now c.told-block)
