use Rattle.std.proofs.Common.{◌≡◌, ◌≤◌, inl, inr, sym, ap, subst, ◌∙◌, arith}
use Rattle.std.proofs.lemmas.Result.{err_from_is_err_and}
use Rattle.byte_position.specs.Geometry.{IsSegmentSize}
use Rattle.machine_state.specs.Moves.{with_hold}
use Rattle.machine_state.specs.Views.{Hold, Idle, View}
use Rattle.machine_state.specs.Words.{end_form}
use Rattle.machine_state.specs.declared.setup.Setup.{Setup}
use Rattle.wal_rule.specs.SeatedPasses.{view_of}
use Rattle.word_ring.specs.InHand.{IsReady, lent_in}
use Rattle.wal_log.specs.Standing.{AddsNothing, WorksOn}
use Rattle.wal_log.proofs.AddingNothing.{held_else, works_on}
use Rattle.wal_log.proofs.FlushLaws.{fails_flush, told_behind, told_still}
use Rattle.wal_log.proofs.InHandLaws.{hand_stays}
use Rattle.wal_log.proofs.Keeping.{still_up}
use Rattle.wal_log.proofs.Seated.{own_setup, valid_size, view_is}
use Rattle.wal_log.proofs.flushing.harden_in_turn.Given.{Over}
use Rattle.wal_log.proofs.flushing.harden_in_turn.Goals as goal
use Rattle.wal_log.proofs.flushing.harden_in_turn.Goals.{After-give_back, After-harden, After-told_already}

-- ---- the flushed address is loaded again

module _ (g : Over) (c : After-told_already g) where
  abbrev old : View
  old = view_of c.args.seated.now

  size : IsSegmentSize old.opening.setup.seg_size
  size = subst (λ (s : Setup). IsSegmentSize s.seg_size) (sym (own_setup c.args.seated.now))
      (valid_size c.args.seated.now)

  reserved : c.args.upto.0 ≤ end_form old.opening.setup old.reserving.seen
  reserved = subst (λ (s : Setup). c.args.upto.0 ≤ end_form s old.reserving.seen)
      (sym (own_setup c.args.seated.now)) c.requires.reserved

  looked : WorksOn c.args.seated.now c.told_already.new.seated
  looked = record {
    same_table = c.told_already.ensures.stays.stays.same_table;
    work = c.told_already.ensures.stays.work;
  }

  -- the writer stays in hand
  ready : IsReady g.D.Disk.tape g.D.Disk.moment g.D.Disk.faults c.told_already.new.seated
  ready =
      let stays = c.told_already.ensures.stays in
      let hand = c.requires.ready.hand in
      record {
        hand = hand_stays g.D.Disk.tape g.D.Disk.moment g.D.Disk.faults c.args.seated.now
            c.told_already.new.seated hand stays.stays hand.0 (stays.hold ∙ hand.2.hold)
            (sym (ap (λ (h : Hold). (lent_in h).writer) hand.2.hold));
        up = ap (λ (h : Hold). ((lent_in h).writer).fault) stays.hold ∙ c.requires.ready.up;
      }

-- ---- another flush had passed the address

pub store_written-requires : goal.store_written-requires
store_written-requires g c = record {
  ready = ready g (goal.at.store_written-requires g c).After-told_already;
}

module _ (g : Over) (c : After-give_back g) where
  back : view_of c.give_back.new.seated ≡ with_hold Idle (view_of c.told_already.new.seated)
  back = ap (λ m. m.0) c.give_back.ensures.view
      ∙ ap (λ (v : View). with_hold Idle v) (view_is c.store_written.ensures.view)

  given : AddsNothing c.told_already.new.seated c.give_back.new.seated
  given = held_else c.told_already.new.seated c.give_back.new.seated Idle
      (c.give_back.ensures.same_table ∙ c.store_written.ensures.view.same_table) back

pub returns-in-Some-clause-tries : goal.returns-in-Some-clause-tries
returns-in-Some-clause-tries g c =
    let at = (goal.at.returns-in-Some-clause-tries g c).After-give_back in
    let mid = view_of c.told_already.new.seated in
    let new = view_of c.give_back.new.seated in
    let told = c.in-Some.ensures.told in (
      told_still c.args.upto.0 c.in-Some.hard.upto.0 c.in-Some.hard.moment
          (view_of c.args.seated.now) mid new (given g at).log (given g at).works.work.pass
          (still_up mid Idle new (back g at) (told.0).up) told.0,
      inl (told.1 ∙ sym (given g at).flushed),
    )

-- ---- none had

pub harden-requires-clause-ready : goal.harden-requires-clause-ready
harden-requires-clause-ready g c =
    ready g (goal.at.harden-requires-clause-ready g c).After-told_already

module _ (g : Over) (c : After-harden g)
    (before : WorksOn c.args.seated.now c.told_already.new.seated) where
  hardened : WorksOn c.args.seated.now c.harden.new.seated
  hardened = works_on c.args.seated.now c.told_already.new.seated c.harden.new.seated before
      c.harden.ensures.works

pub returns-in_err-harden-clause-tries : goal.returns-in_err-harden-clause-tries
returns-in_err-harden-clause-tries g c =
    let path = goal.at.returns-in_err-harden-clause-tries g c in
    let exit = err_from_is_err_and c.from_residual.result c.from_residual.ensures.1 in
    let before = path.After-told_already in
    let works = hardened g path.After-harden (looked g before) in
    let told = c.in_default.ensures.told in
    let above = told.1 in
    let still = c.harden.ensures.flushed in
    rw (exit.1, exit.2) (
      fails_flush c.args.upto.0 _ (view_of c.args.seated.now) (view_of c.harden.new.seated)
          (size g before) (reserved g before) works.work.pass.rises
          (omega (arith, above, still)) c.in_err-harden.ensures.told.0,
      c.in_err-harden.ensures.told.1 ∙ told.0,
    )

pub returns-clause-tries : goal.returns-clause-tries
returns-clause-tries g c =
    let path = goal.at.returns-clause-tries g c in
    let works = looked g path.After-told_already in
    let hard = c.in_ok-harden.field-0 in
    let reaches = c.requires.reaches in
    let far = c.in_ok-harden.ensures.told.0 in
    let told = c.in_default.ensures.told in
    let above = told.1 in
    let still = c.harden.ensures.flushed in (
      told_behind hard.upto.0 hard.upto.0 hard.moment (view_of c.args.seated.now)
          (view_of c.told_already.new.seated) (view_of c.harden.new.seated) told.0
          works.work.pass c.args.upto.0 (omega (arith, far, reaches))
          c.in_ok-harden.ensures.told.1,
      inr (omega (arith, above, still)),
    )

-- ---- its work goes on

pub returns-in-Some-clause-works : goal.returns-in-Some-clause-works
returns-in-Some-clause-works g c =
    let path = goal.at.returns-in-Some-clause-works g c in
    works_on c.args.seated.now c.told_already.new.seated c.give_back.new.seated
    (looked g path.After-told_already) (given g path.After-give_back).works

pub returns-in_err-harden-clause-works : goal.returns-in_err-harden-clause-works
returns-in_err-harden-clause-works g c =
    let path = goal.at.returns-in_err-harden-clause-works g c in
    hardened g path.After-harden (looked g path.After-told_already)

pub returns-clause-works : goal.returns-clause-works
returns-clause-works g c =
    let path = goal.at.returns-clause-works g c in
    hardened g path.After-harden (looked g path.After-told_already)
