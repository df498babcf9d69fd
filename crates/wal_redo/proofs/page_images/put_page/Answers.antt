use Rattle.wal_redo.specs.declared.blocks.PutErr.TheVariants as putting
use Rattle.wal_redo.proofs.CallLaws.{CallsUpTo-first}
use Rattle.wal_redo.proofs.page_images.put_page.Goals as goal

pub returns-in-Err-Memory-clause-called : goal.returns-in-Err-Memory-clause-called
returns-in-Err-Memory-clause-called g c = CallsUpTo-first _ _ putting.Memory c.args.block c.args.page.now (rw c.in-Err-Memory.field-0-is at c.in-Err-Memory.ensures.called)

pub returns-in-Err-Failed-clause-called : goal.returns-in-Err-Failed-clause-called
returns-in-Err-Failed-clause-called g c = CallsUpTo-first _ _ putting.Failed c.args.block c.args.page.now (rw c.in-Err-Failed.field-0-is at c.in-Err-Failed.ensures.called)
