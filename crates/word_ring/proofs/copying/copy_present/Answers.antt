use Rattle.std.proofs.Common.{◌≡◌, ℕ, ◌+◌, ◌*◌, ◌/◌, ◌%◌, refl, sym, ap, ◌∙◌, subst, arith}
use Rattle.wal_page.specs.Placed.{PlacedState}
use Rattle.machine_state.specs.declared.setup.Setup.{Setup}
use Rattle.machine_state.specs.Steps.{load_buffer_end}
use Rattle.machine_state.specs.Views.{View}
use Rattle.wal_rule.specs.SeatedPasses.{setup_of, view_of}
use Rattle.wal_rule.specs.Stepping.{Meets}
use Rattle.word_ring.specs.Copied.{copied_view, page_end_at}
use Rattle.word_ring.specs.Ring.{confirmed_view}
use Rattle.word_ring.proofs.CopyLaws.{copied_none, place_of_buffer, rest_met, words-left}
use Rattle.word_ring.proofs.Steps.{has_same_view, same_setup, then_view, view_is}
use Rattle.word_ring.proofs.copying.copy_present.Given.{Over}
use Rattle.word_ring.proofs.copying.copy_present.Goals as goal
use Rattle.word_ring.proofs.copying.copy_present.Goals.{After-load_buffer_end-met}

-- the buffer's end word was met by the view before
looked_up : (g : Over) (c : After-load_buffer_end-met g) → Meets (view_of c.args.seated.now)
    (load_buffer_end (c.args.placed.now.next / 8192 % (setup_of c.args.seated.now).ring_pages))
    c.load_buffer_end-met.result
looked_up g c =
    let pages = c.from-ring_pages.ensures ∙ c.ring_pages.ensures.pages
    ∙ ap (λ (s : Setup). s.ring_pages) c.shape.ensures in
    subst (λ (n : ℕ). Meets (view_of c.args.seated.now) (load_buffer_end n)
    c.load_buffer_end-met.result)
    (ap (λ (n : ℕ). c.args.next / 8192 % n) pages
    ∙ ap (λ (n : ℕ). n / 8192 % (setup_of c.args.seated.now).ring_pages) c.requires.next)
    c.load_buffer_end-met.ensures.met

-- ---- another page is in the buffer

pub returns-then-met-page-clause-copies : goal.returns-then-met-page-clause-copies
returns-then-met-page-clause-copies g c =
    let p = c.args.seated.now in
    let a : PlacedState = c.args.placed.now in
    let met : ℕ = c.load_buffer_end-met.result in
    let v : View = confirmed_view met (view_of p) in
    let none : a.next ≡ a.next + 8 * 0 = omega arith in
    record {
      met = met;
      looked = looked_up g (goal.at.returns-then-met-page-clause-copies g c).After-load_buffer_end-met;
      present = λ same.
          absurd (c.if-met-page.true (same ∙ ap page_end_at (sym c.requires.next)));
      absent = λ other. refl;
      view = has_same_view v (copied_view 0 v) p c.load_buffer_end-met.new.self (copied_none v)
          c.load_buffer_end-met.ensures.steps;
      placed_is = ap (λ (n : ℕ). record a { next = n }) none;
    }

pub returns-then-met-page-clause-within : goal.returns-then-met-page-clause-within
returns-then-met-page-clause-within g c =
    let left = words-left c.args.seated.now c.args.placed.now c.requires.rest in
    let end = c.requires.end in
    omega (arith, left.0, end)

-- ---- the page of the next word is

pub copy_from-requires-clause-rest : goal.copy_from-requires-clause-rest
copy_from-requires-clause-rest g c =
    rest_met c.args.seated.now c.load_buffer_end-met.new.self c.args.placed.now
    c.load_buffer_end-met.result c.requires.rest c.load_buffer_end-met.ensures.steps

pub copy_from-requires-clause-met : goal.copy_from-requires-clause-met
copy_from-requires-clause-met g c =
    let high = ap (λ (w : View). (w.mapping).confirmed)
    (view_is (confirmed_view c.load_buffer_end-met.result (view_of c.args.seated.now))
    c.args.seated.now c.load_buffer_end-met.new.self c.load_buffer_end-met.ensures.steps) in
    let own = c.if-met-page.false in
    omega (arith, high, own)

pub copy_from-requires-clause-place : goal.copy_from-requires-clause-place
copy_from-requires-clause-place g c =
    let p = c.args.seated.now in
    let q = c.load_buffer_end-met.new.self in
    let same = c.shape.ensures
    ∙ sym (same_setup p q c.load_buffer_end-met.ensures.steps.same_table) in
    place_of_buffer (setup_of q) c.from-ring_pages.result c.args.next _
    (c.from-ring_pages.ensures ∙ c.ring_pages.ensures.pages
    ∙ ap (λ (s : Setup). s.ring_pages) same) refl

pub returns-clause-copies : goal.returns-clause-copies
returns-clause-copies g c =
    let p = c.args.seated.now in
    let met : ℕ = c.load_buffer_end-met.result in
    record {
      met = met;
      looked = looked_up g (goal.at.returns-clause-copies g c).After-load_buffer_end-met;
      present = λ same. c.copy_from.ensures.count;
      absent = λ other. absurd (other (c.if-met-page.false ∙ ap page_end_at c.requires.next));
      view = then_view (copied_view c.copy_from.result) (confirmed_view met (view_of p)) p
          c.load_buffer_end-met.new.self c.copy_from.new.seated
          c.load_buffer_end-met.ensures.steps c.copy_from.ensures.copied.view;
      placed_is = c.copy_from.ensures.copied.placed_is;
    }
