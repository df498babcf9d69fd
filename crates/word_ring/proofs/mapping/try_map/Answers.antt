use Rattle.std.proofs.Common.{◌≡◌, ap, ◌∙◌, subst, arith}
use Rattle.machine_state.specs.declared.setup.Setup.{Setup}
use Rattle.machine_state.specs.Views.{Taken, View}
use Rattle.wal_rule.specs.SeatedPasses.{view_of}
use Rattle.word_ring.specs.Mapped.{LooksAt, staged_view}
use Rattle.word_ring.proofs.Steps.{mapped, same_setup, tried, view_is}
use Rattle.word_ring.proofs.mapping.try_map.Given.{Over}
use Rattle.word_ring.proofs.mapping.try_map.Goals as goal
use Rattle.word_ring.proofs.mapping.try_map.Goals.{After-look-at}

looks : (g : Over) (c : After-look-at g) → c.take_turn-turn.result ≡ 0
    → LooksAt (staged_view Taken (view_of c.args.seated.now)) c.look-at.result.0
    c.look-at.result.1
looks g c free = subst (λ (w : View). LooksAt w c.look-at.result.0 c.look-at.result.1)
    (view_is _ _ _ (c.take_turn-turn.ensures.taken free)) c.look-at.ensures.looks

pub replace-requires-clause-ready : goal.replace-requires-clause-ready
replace-requires-clause-ready g c =
    let far = c.if-written-ring.false in
    let ring = c.from-ring.ensures in
    let pages = c.ring_pages.ensures.pages in
    let shape = ap (λ (s : Setup). s.ring_pages) c.shape.ensures in (
      c.look-at.result.1,
      ap (λ (w : View). (w.mapping).stage) (view_is _ _ _ c.look-at.ensures.view),
      omega (arith, far, ring, pages, shape),
    )

pub returns-then-page-at-clause-tries : goal.returns-then-page-at-clause-tries
returns-then-page-at-clause-tries g c =
    let at = (goal.at.returns-then-page-at-clause-tries g c).After-look-at in
    let there = c.if-page-at.true in (
      c.look-at.result.0,
      c.look-at.result.1,
      omega (arith, there),
      view_is _ _ _ (tried c.args.seated.now c.look-at.result.0 c.look-at.result.1
          c.requires.away _ _ (c.take_turn-turn.ensures.taken c.if-turn-ne0.false)
          c.look-at.ensures.view _ c.give_turn_back.ensures.view),
      looks g at c.if-turn-ne0.false,
    )

pub returns-then-written-ring-clause-tries : goal.returns-then-written-ring-clause-tries
returns-then-written-ring-clause-tries g c =
    let at = (goal.at.returns-then-written-ring-clause-tries g c).After-look-at in
    let far = c.if-written-ring.true in
    let ring = c.from-ring.ensures in
    let pages = c.ring_pages.ensures.pages in
    let shape = ap (λ (s : Setup). s.ring_pages) (c.shape.ensures
    ∙ same_setup c.args.seated.now c.look-at.new.seated (c.look-at.ensures.view.same_table
    ∙ (c.take_turn-turn.ensures.taken c.if-turn-ne0.false).same_table)) in
    let below = c.if-page-at.false in (
      c.look-at.result.0,
      omega (arith, below),
      omega (arith, far, ring, pages, shape),
      view_is _ _ _ (tried c.args.seated.now c.look-at.result.0 c.look-at.result.1
          c.requires.away _ _ (c.take_turn-turn.ensures.taken c.if-turn-ne0.false)
          c.look-at.ensures.view _ c.give_turn_back-then-written-ring.ensures.view),
      looks g at c.if-turn-ne0.false,
    )

pub returns-then-written-ring-clause-stays : goal.returns-then-written-ring-clause-stays
returns-then-written-ring-clause-stays g c =
    let has = tried c.args.seated.now c.look-at.result.0 c.look-at.result.1 c.requires.away _ _
    (c.take_turn-turn.ensures.taken c.if-turn-ne0.false) c.look-at.ensures.view _
    c.give_turn_back-then-written-ring.ensures.view in record {
      same_table = has.same_table;
      same_hand = ap (λ m. m.1) has.me_is;
    }

pub returns-else-written-ring-clause-tries : goal.returns-else-written-ring-clause-tries
returns-else-written-ring-clause-tries g c =
    let at = (goal.at.returns-else-written-ring-clause-tries g c).After-look-at in
    let far = c.if-written-ring.false in
    let ring = c.from-ring.ensures in
    let pages = c.ring_pages.ensures.pages in
    let shape = ap (λ (s : Setup). s.ring_pages) (c.shape.ensures
    ∙ same_setup c.args.seated.now c.look-at.new.seated (c.look-at.ensures.view.same_table
    ∙ (c.take_turn-turn.ensures.taken c.if-turn-ne0.false).same_table)) in
    let below = c.if-page-at.false in (
      c.look-at.result.0,
      c.look-at.result.1,
      omega (arith, below),
      view_is _ _ _ (mapped c.args.seated.now c.look-at.result.0 c.look-at.result.1
          c.requires.away _ _ (c.take_turn-turn.ensures.taken c.if-turn-ne0.false)
          c.look-at.ensures.view _ _ c.replace.ensures.view
          c.give_turn_back-else-written-ring.ensures.view),
      looks g at c.if-turn-ne0.false,
      λ old. omega (arith, far, ring, pages, shape, old),
    )
