use Rattle.wal_spelling.proofs.RightBlocks.{each_right}
use Rattle.wal_spelling.proofs.assembly.spell_after_header.Goals as goal

pub put_block_headers-requires : goal.put_block_headers-requires
put_block_headers-requires c = rw c.as_slice.ensures (each_right 0 c.args.r.now.blocks c.requires.blocks)
