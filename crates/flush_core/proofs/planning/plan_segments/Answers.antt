-- One segment behind another.
use Rattle.std.proofs.Common.{◌≡◌, ◌+◌, ◌/◌, ◌^◌, ◌<◌, All, ℕ, length, nat_lt, ap, sym, subst, ◌∙◌, arith}
use Rattle.flush_core.proofs.PlanReads.{all_put, segments_listed, segments_read}
use Rattle.flush_core.proofs.SettleEnds.{not_made_on}
use Rattle.flush_core.proofs.planning.plan_segments.Goals as goal

pub loop-before-preserved : goal.loop-before-preserved
loop-before-preserved g c =
    let size = c.args.geometry in
    let end = c.args.end.0 in
    let n = c.loop-before.before in
    let items = c.loop-before.pages.items in
    let later = c.plan_segment.new.pages.items in
    let listed = c.loop-before.segments.items in
    let same = c.loop-before.invariant.uncalled.same_tape in
    let is_put = nat_lt c.len-planned.result c.len.result in
    let before : c.len-planned.result ≡ length items = omega (arith, c.len-planned.ensures) in
    let behind : c.len.result ≡ length later = omega (arith, c.len.ensures) in
    let put_is : is_put ≡ nat_lt (length items) (length later) = ap (λ (k : ℕ). nat_lt k c.len.result) before ∙ ap (nat_lt (length items)) behind in
    let bound = all_put (λ (s : ℕ). s < 2 ^ 64 / size) listed (n + 1) is_put c.loop-before.invariant.numbers (omega (arith, c.requires.count)) in
    record {
      cleared = segments_read size end n _ _ same items later c.loop-before.invariant.cleared c.in_ok-plan_segment.ensures.planned;
      synced = segments_listed size end n _ _ same items later listed c.put_if.new.list.items is_put put_is c.in_ok-put_if.ensures.put c.loop-before.invariant.synced c.in_ok-plan_segment.ensures.planned;
      pages = c.in_ok-plan_segment.ensures.pages;
      numbers = subst (All (λ (s : ℕ). s < 2 ^ 64 / size)) (sym c.in_ok-put_if.ensures.put) bound;
      uncalled = not_made_on _ _ _ _ _ _ c.loop-before.invariant.uncalled c.in_ok-plan_segment.ensures.uncalled;
      faults = c.in_ok-plan_segment.ensures.cause ∙ c.loop-before.invariant.faults;
    }
