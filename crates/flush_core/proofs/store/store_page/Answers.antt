-- A page is not stored where its segment is not made, or the page is not written.
use Rattle.std.proofs.Common.{ap, ◌∙◌}
use Rattle.segment_disk.proofs.Presence.{on_err}
use Rattle.flush_core.proofs.CallLaws.{breaks_at_create, breaks_behind_create, breaks_at_write}
use Rattle.flush_core.proofs.store.store_page.Goals.{then-is_new+in_ok-create, else-is_new}
use Rattle.flush_core.proofs.store.store_page.Goals as goal

pub returns-in_err-create-clause-err : goal.returns-in_err-create-clause-err
returns-in_err-create-clause-err g c =
    on_err c.from_residual.result _ (breaks_at_create c.args.geometry c.args.place.segment c.args.place.page c.args.is_full c.args.bytes.now _ _ _ _ c.args.is_new c.if-is_new.true c.in_err-create.ensures.answers)

pub returns-in_err-write_page-clause-err : goal.returns-in_err-write_page-clause-err
returns-in_err-write_page-clause-err g c =
    let tape = g.D.Disk.tape in
    let moment = g.D.Disk.moment in
    let size = c.args.geometry in
    let segment = c.args.place.segment in
    let page = c.args.place.page in
    let bytes = c.args.bytes.now in
    let fails = c.in_err-write_page.ensures.answers in
    on_err c.from_residual-in_err-write_page.result _ (elim c.if-is_new.branch [
      | then-is_new+in_ok-create w ↦
          breaks_behind_create size segment page c.args.is_full bytes _ _ _ _ _ _ c.args.is_new w.if-is_new.true (ap tape w.disk-is ∙ w.in_ok-create.ensures.answers.tape) (ap moment w.disk-is ∙ w.in_ok-create.ensures.answers.moment) fails
      | else-is_new w ↦ breaks_at_write size segment page c.args.is_full bytes _ _ _ _ _ _ c.args.is_new w.if-is_new.false (ap tape w.disk-is) (ap moment w.disk-is) fails
    ])
