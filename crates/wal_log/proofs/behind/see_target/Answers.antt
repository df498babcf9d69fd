use Rattle.std.proofs.Common.{◌≡◌, ℕ, ◌-◌, ◌%◌, ◌<◌, ◌≤◌, ap, sym, ◌∙◌, arith}
use Rattle.machine_state.specs.declared.setup.Setup.{Setup}
use Rattle.machine_state.specs.Words.{end_form}
use Rattle.wal_rule.specs.SeatedPasses.{setup_of, view_of}
use Rattle.wal_log.specs.Behind.{SeesTarget}
use Rattle.wal_log.proofs.BehindLaws.{page_from_end, sees_by_page}
use Rattle.wal_log.proofs.Seated.{own_setup, same_setup, view_is}
use Rattle.wal_log.proofs.behind.see_target.Given.{Over}
use Rattle.wal_log.proofs.behind.see_target.Goals as goal
use Rattle.wal_log.proofs.behind.see_target.Goals.{After-see_reserved-end}

module _ (g : Over) (c : After-see_reserved-end g) where
  abbrev page : ℕ
  page = c.see_reserved-end.result - c.see_reserved-end.result % 8192

  abbrev Sees : ℕ → Type 0
  Sees target = SeesTarget c.load_flushed-flushed.result target (view_of c.args.seated.now)
      (view_of c.see_reserved-end.new.seated)

  sees_so : (c.load_flushed-flushed.result < page → Sees page)
      × (page ≤ c.load_flushed-flushed.result → Sees c.load_async-async_met.result)
  sees_so =
      let old = c.args.seated.now in
      let loaded = c.load_async-async_met.new.self in
      let seen : ℕ = (view_of c.see_reserved-end.new.seated).reserving.seen in
      let same : setup_of loaded ≡ (view_of old).opening.setup =
      same_setup old loaded (c.load_async-async_met.ensures.steps.same_table
      ∙ c.load_flushed-flushed.ensures.steps.same_table) ∙ sym (own_setup old) in
      let end = c.see_reserved-end.ensures.end
      ∙ ap (λ (s : Setup). end_form s seen) same in
      let size = ap (λ (s : Setup). s.seg_size) same in
      let first = c.see_reserved-end.ensures.begun in
      let begun : (view_of old).opening.setup.seg_size
      ≤ end_form (view_of old).opening.setup seen = omega (arith, end, size, first) in
      sees_by_page c.load_flushed-flushed.result c.load_async-async_met.result seen (view_of old)
      (view_of c.load_flushed-flushed.new.self) (view_of loaded)
      (view_of c.see_reserved-end.new.seated) (view_is c.load_flushed-flushed.ensures.steps)
      (view_is c.load_async-async_met.ensures.steps) (view_is c.see_reserved-end.ensures.view)
      c.load_flushed-flushed.ensures.met c.load_async-async_met.ensures.met
      c.load_async-async_met.ensures.furthest c.load_flushed-flushed.ensures.furthest
      c.see_reserved-end.ensures.rises c.see_reserved-end.ensures.met begun page
      (page_from_end c.see_reserved-end.result (end_form (view_of old).opening.setup seen)
      end)

pub returns-then-flushed-page-clause-sees : goal.returns-then-flushed-page-clause-sees
returns-then-flushed-page-clause-sees g c =
    let at = (goal.at.returns-then-flushed-page-clause-sees g c).After-see_reserved-end in
    (sees_so g at).0 (omega (arith, c.if-flushed-page.true))

pub returns-clause-sees : goal.returns-clause-sees
returns-clause-sees g c =
    let at = (goal.at.returns-clause-sees g c).After-see_reserved-end in
    (sees_so g at).1 (omega (arith, c.if-flushed-page.false))
