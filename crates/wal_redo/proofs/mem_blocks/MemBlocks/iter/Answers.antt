use Rattle.wal_redo.proofs.StoreLaws.{told_in_order}
use Rattle.wal_redo.proofs.mem_blocks.MemBlocks.iter.Goals as goal

pub returns-clause-ordered : goal.returns-clause-ordered
returns-clause-ordered c = told_in_order (λ page. page.value) c.args.self.now.pages.entries c.iter.ensures.ordered
