use Rattle.std.proofs.Common.{Some, ap}
use Rattle.wal_redo.proofs.StoreLaws.{told_after}
use Rattle.wal_redo.proofs.mem_blocks.MemBlocks.put_unnoted.Goals as goal

pub returns-in-Ok-insert-clause-put : goal.returns-in-Ok-insert-clause-put
returns-in-Ok-insert-clause-put c =
    ap Some (λ i other. told_after (λ page. page.value) c.args.self.now.pages c.insert.new.self c.args.block c.in-Ok.page c.args.page.now c.in-Ok.ensures.ok c.in-Ok-insert.ensures.updates other i)
