use Rattle.wal_spelling.proofs.RightBlocks.{bad_block_is_first}
use Rattle.wal_spelling.proofs.laws.bad_block_is_first.Goals as goal

pub returns : goal.returns
returns c = bad_block_is_first
