use Rattle.std.proofs.Common.{ap, ◌∙◌, arith}
use Rattle.machine_state.specs.declared.setup.Setup.{Setup}
use Rattle.machine_state.specs.Views.{View}
use Rattle.word_ring.proofs.Steps.{ended_at_most, ended_early, mapped_more, mapped_none, same_setup, view_is}
use Rattle.word_ring.proofs.mapping.map_on.Goals as goal

pub loop-mapped-init : goal.loop-mapped-init
loop-mapped-init g c = mapped_none c.args.seated.now c.requires.taken

pub replace-requires-clause-ready : goal.replace-requires-clause-ready
replace-requires-clause-ready g c =
    let far = c.if-written-ring.false in
    let ring = c.from-ring.ensures in
    let pages = c.ring_pages.ensures.pages in
    let shape = ap (λ (s : Setup). s.ring_pages) c.shape.ensures in (
      c.look-at.result.1,
      ap (λ (w : View). (w.mapping).stage) (view_is _ _ _ c.look-at.ensures.view),
      omega (arith, far, ring, pages, shape),
    )

pub loop-mapped-preserved : goal.loop-mapped-preserved
loop-mapped-preserved g c =
    let far = c.if-written-ring.false in
    let ring = c.from-ring.ensures in
    let pages = c.ring_pages.ensures.pages in
    let shape = ap (λ (s : Setup). s.ring_pages) (c.shape.ensures
    ∙ same_setup c.args.seated.now c.look-at.new.seated (c.look-at.ensures.view.same_table
    ∙ c.loop-mapped.invariant.view.same_table)) in
    mapped_more c.args.seated.now c.loop-mapped._mapped c.loop-mapped.seated c.look-at.new.seated
    c.replace.new.seated c.loop-mapped.invariant c.look-at.result.0 c.look-at.result.1
    c.look-at.ensures.view c.look-at.ensures.looks c.replace.ensures.view
    (λ old. omega (arith, far, ring, pages, shape, old))

pub returns-then-written-ring-clause-many : goal.returns-then-written-ring-clause-many
returns-then-written-ring-clause-many g c =
    let far = c.if-written-ring.true in
    let ring = c.from-ring.ensures in
    let pages = c.ring_pages.ensures.pages in
    let shape = ap (λ (s : Setup). s.ring_pages) (c.shape.ensures
    ∙ same_setup c.args.seated.now c.look-at.new.seated (c.look-at.ensures.view.same_table
    ∙ c.loop-mapped.invariant.view.same_table)) in
    ended_early c.args.seated.now c.loop-mapped._mapped c.loop-mapped.seated c.look-at.new.seated
    c.give_turn_back.new.seated c.loop-mapped.invariant c.look-at.result.0
    c.look-at.result.1 c.look-at.ensures.view c.look-at.ensures.looks c.args.most
    c.loop-mapped-test.true
    (omega (arith, far, ring, pages, shape)) c.give_turn_back.ensures.view

pub returns-clause-many : goal.returns-clause-many
returns-clause-many g c =
    let ended = c.loop-mapped-test.false in
    let most = c.loop-mapped.auto._mapped-end in
    ended_at_most c.args.seated.now c.loop-mapped._mapped c.args.most c.loop-mapped.seated
    c.give_turn_back-2.new.seated c.loop-mapped.invariant (omega (arith, ended, most))
    c.give_turn_back-2.ensures.view
