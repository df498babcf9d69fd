-- One page behind another.
use Rattle.std.proofs.Common.{◌∙◌, arith}
use Rattle.segment_disk.proofs.Presence.{on_err}
use Rattle.flush_core.proofs.Clearing.{page_waits, pages_more, pages_stop}
use Rattle.flush_core.proofs.settling.clear_pages.Goals as goal

pub returns-in_err-clear_page-clause-err : goal.returns-in_err-clear_page-clause-err
returns-in_err-clear_page-clause-err g c = λ all.
    let pages = c.args.pages.now in
    let i = c.loop-page.page-index in
    let made = c.loop-page.invariant.made all in
    on_err c.from_residual.result _
    (pages_stop c.args.geometry pages i _ (omega arith) _ _ _ _ all made _ _ (c.in_err-clear_page.ensures.err (page_waits c.args.geometry pages i _ (omega arith) _ _ _ _ all made)))

pub loop-page-preserved : goal.loop-page-preserved
loop-page-preserved g c =
    let pages = c.args.pages.now in
    let i = c.loop-page.page-index in record {
      made = λ all. let made = c.loop-page.invariant.made all in
          pages_more c.args.geometry pages i _ (omega arith) _ _ _ _ all made _ _ (c.in_ok-clear_page.ensures.ok (page_waits c.args.geometry pages i _ (omega arith) _ _ _ _ all made));
      counted = omega (arith, c.loop-page.invariant.counted, c.in_ok-clear_page.ensures.counted);
      faults = c.in_ok-clear_page.ensures.cause ∙ c.loop-page.invariant.faults;
    }
