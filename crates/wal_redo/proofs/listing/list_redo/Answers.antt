use Rattle.std.proofs.Common.{◌≡◌, [], subst}
use Rattle.std.specs.Prelude.{IfOk}
use Rattle.std.proofs.lemmas.Result.{err_from_is_err_and}
use Rattle.wal_redo.specs.MemBlocks.{stored_pages}
use Rattle.wal_redo.proofs.ListingLaws.{listed_all, listed_front}
use Rattle.wal_redo.proofs.listing.list_redo.Goals as goal

pub returns-in_err-put_redone-in-Ok-clause-listed : goal.returns-in_err-put_redone-in-Ok-clause-listed
returns-in_err-put_redone-in-Ok-clause-listed g c =
    let p = err_from_is_err_and c.from_residual.result c.from_residual.ensures.1 in
    let empty = subst (λ made. IfOk made (λ store. stored_pages store ≡ [])) c.unwrap-blocks.ensures c.new-2.ensures.empty in
    rw (p.1, p.2) (listed_front c.args.geometry c.args.start.0 (stored_pages c.unwrap-blocks.result) (stored_pages c.redo.new.blocks) empty c.put_redone.ensures.ordered _ _ _ _ (g.D.Disk.tape c.args.disk.now) c.in-Ok.images c.in_err-put_redone-in-Ok.field-0.0 c.in-Ok.ensures.redone c.in_err-put_redone-in-Ok.ensures.put)

pub returns-in-Ok-clause-listed : goal.returns-in-Ok-clause-listed
returns-in-Ok-clause-listed g c =
    let empty = subst (λ made. IfOk made (λ store. stored_pages store ≡ [])) c.unwrap-blocks.ensures c.new-2.ensures.empty in
    listed_all c.args.geometry c.args.start.0 (stored_pages c.unwrap-blocks.result) (stored_pages c.redo.new.blocks) empty c.put_redone.ensures.ordered _ _ _ _ (g.D.Disk.tape c.args.disk.now) c.in-Ok.images c.in-Ok.ensures.redone c.in_ok-put_redone-in-Ok.ensures.put
