-- One page behind another.
use Rattle.std.proofs.Common.{◌≡◌, ℕ, ap, ◌∙◌, arith}
use Rattle.flush_core.specs.declared.planning.PlannedPage.{PlannedPage}
use Rattle.flush_core.specs.Settled.{clear_from}
use Rattle.flush_core.proofs.PlanReads.{page_read}
use Rattle.flush_core.proofs.SettleEnds.{not_made_on}
use Rattle.flush_core.proofs.planning.plan_segment.Goals as goal

pub loop-number-preserved : goal.loop-number-preserved
loop-number-preserved g c =
    let kept = c.bytes_below-kept.result in
    let first = c.min-first.result in
    let number = c.loop-number.number in
    let from : c.next_multiple_of-from.result ≡ clear_from kept number = omega (arith, c.next_multiple_of-from.ensures.lower_bound, c.next_multiple_of-from.ensures.upper_bound, c.next_multiple_of-from.ensures.multiple, c.saturating_sub.ensures) in
    let of : ℕ → PlannedPage = λ n. record { segment = c.args.segment; page = number; from = n } in
    record {
      low = omega (arith, c.loop-number.invariant.low);
      planned = page_read c.args.geometry c.args.segment kept first number c.loop-number.invariant.low _ _ c.loop-number.invariant.uncalled.same_tape c.args.pages.now.items c.loop-number.pages.items c.plan_page.new.pages.items _
          (ap of from) c.loop-number.invariant.planned c.in_ok-plan_page.ensures.planned;
      bound = c.in_ok-plan_page.ensures.pages;
      uncalled = not_made_on _ _ _ _ _ _ c.loop-number.invariant.uncalled c.in_ok-plan_page.ensures.uncalled;
      faults = c.in_ok-plan_page.ensures.cause ∙ c.loop-number.invariant.faults;
    }
