use Rattle.std.proofs.Common.{◌≡◌, ◌<◌, ◌≤◌, ap, sym, subst, inl, inr, ◌∙◌, arith}
use Rattle.std.proofs.lemmas.Map.Keys.{ge_from_not_lt}
use Rattle.byte_position.specs.Geometry.{IsSegmentSize}
use Rattle.byte_position.proofs.EndAddresses.{end_address_of-mono}
use Rattle.machine_state.specs.declared.setup.Setup.{Setup}
use Rattle.machine_state.specs.Words.{end_form}
use Rattle.machine_state.specs.Views.{View}
use Rattle.insert_locks.specs.Watching.{SeesPosition, with_sight}
use Rattle.wal_rule.specs.SeatedPasses.{setup_of, view_of}
use Rattle.wal_log.specs.Flushing.{SeesReserved, view_looked}
use Rattle.wal_log.specs.Standing.{HasNoTurn, WorksOn}
use Rattle.wal_log.proofs.AddingNothing.{works_on}
use Rattle.wal_log.proofs.FlushLaws.{lt_from_is_lt, told_behind, tried_behind}
use Rattle.wal_log.proofs.Keeping.{both_up}
use Rattle.wal_log.proofs.LookLaws.{found_unflushed, looked_is, told_at_once}
use Rattle.wal_log.proofs.ReservedLaws.{sees_whether}
use Rattle.wal_log.proofs.Seated.{own_setup, same_setup, seat_stays, valid_size, view_is}
use Rattle.wal_log.proofs.Watched.{Watches, seen_leaves, still_no_turn, watches}
use Rattle.wal_log.proofs.flushing.try_up.Given.{Over}
use Rattle.wal_log.proofs.flushing.try_up.Goals as goal
use Rattle.wal_log.proofs.flushing.try_up.Goals.{After-see_end, After-told_already}

module _ (g : Over) (c : After-see_end g) where
  seen : Watches c.args.seated.now c.see_end.new.seated
  seen = watches c.args.seated.now c.see_end.new.seated (seat_stays c.see_end.ensures.view)
      (seen_leaves (view_of c.see_end.new.seated).reserving.seen (view_of c.args.seated.now)
      (view_of c.see_end.new.seated) c.see_end.ensures.sees.rises (view_is c.see_end.ensures.view))

pub returns-then-lt-clause-tries : goal.returns-then-lt-clause-tries
returns-then-lt-clause-tries g c =
    let at = (goal.at.returns-then-lt-clause-tries g c).After-see_end in
    let old = view_of c.args.seated.now in
    let end_seen = (view_of c.see_end.new.seated).reserving.seen in
    let sees = c.see_end.ensures.sees in
    let setup : Setup = setup_of c.args.seated.now in
    let less = lt_from_is_lt c.see_end.result c.args.upto.0 (sym c.lt.ensures ∙ c.if-lt.true) in
    let end : c.see_end.result ≡ end_form setup end_seen = omega (arith, sees.end_is, less) in
    let begun : setup.seg_size ≤ c.see_end.result =
    omega (arith, end, c.see_end.ensures.begun) in
    let own = subst (λ (s : Setup). (c.see_end.result ≡ end_form s end_seen)
    × (s.seg_size ≤ c.see_end.result)) (sym (own_setup c.args.seated.now)) (end, begun) in
    let leaves = (seen g at).leaves in (
      record {
        end_is = own.0;
        rises = sees.rises;
        begun = own.1;
        above = less;
        sight = old.reserving.seen;
        since = omega arith;
        loaded = subst (λ (v : View). SeesPosition v end_seen)
            (sym (ap (λ (v : View). with_sight old.reserving.seen v)
            (view_is c.see_end.ensures.view))) c.see_end.ensures.met;
        up = leaves.up c.requires.up;
      },
      leaves.log,
    )

pub returns-then-lt-clause-works : goal.returns-then-lt-clause-works
returns-then-lt-clause-works g c =
    (seen g (goal.at.returns-then-lt-clause-works g c).After-see_end).adds.works

pub returns-then-lt-clause-rests : goal.returns-then-lt-clause-rests
returns-then-lt-clause-rests g c = still_no_turn c.args.seated.now c.see_end.new.seated
    (seen g (goal.at.returns-then-lt-clause-rests g c).After-see_end) c.requires.rests

pub told_already-requires : goal.told_already-requires
told_already-requires g c = record {
  up = (seen g (goal.at.told_already-requires g c).After-see_end).leaves.up c.requires.up;
}

module _ (g : Over) (c : After-told_already g)
    (sees : Watches c.args.seated.now c.see_end.new.seated) where
  before : WorksOn c.args.seated.now c.told_already.new.seated
  before = works_on c.args.seated.now c.see_end.new.seated c.told_already.new.seated
      sees.adds.works (record {
        same_table = c.told_already.ensures.stays.stays.same_table;
        work = c.told_already.ensures.stays.work;
      })

  no_turn : HasNoTurn c.told_already.new.seated
  no_turn =
      let rests = still_no_turn c.args.seated.now c.see_end.new.seated sees c.requires.rests in
      let stays = c.told_already.ensures.stays in record {
        idle = stays.hold ∙ rests.idle;
        empty = stays.stays.same_hand ∙ rests.empty;
      }

pub returns-in-Some-clause-tries : goal.returns-in-Some-clause-tries
returns-in-Some-clause-tries g c =
    let told = c.in-Some.ensures.told in
    let sees = seen g (goal.at.returns-in-Some-clause-tries g c).After-see_end in (
      told_behind c.args.upto.0 c.in-Some.hard.upto.0 c.in-Some.hard.moment
          (view_of c.args.seated.now) (view_of c.see_end.new.seated)
          (view_of c.told_already.new.seated) sees.leaves.log sees.leaves.work.pass c.args.upto.0
          (told.0).reached told.0,
      inl told.1,
    )

pub returns-in-Some-clause-works : goal.returns-in-Some-clause-works
returns-in-Some-clause-works g c =
    let path = goal.at.returns-in-Some-clause-works g c in
    before g path.After-told_already
    (seen g path.After-see_end)

pub returns-in-Some-clause-rests : goal.returns-in-Some-clause-rests
returns-in-Some-clause-rests g c =
    let path = goal.at.returns-in-Some-clause-rests g c in
    no_turn g path.After-told_already
    (seen g path.After-see_end)

pub harden_copied-requires-clause-reserved : goal.harden_copied-requires-clause-reserved
harden_copied-requires-clause-reserved g c =
    let path = goal.at.harden_copied-requires-clause-reserved g c in
    let at = path.After-told_already in
    let setup : Setup = setup_of c.args.seated.now in
    let higher = end_address_of-mono setup.seg_size (valid_size c.args.seated.now)
    (view_of c.see_end.new.seated).reserving.seen (view_of c.told_already.new.seated).reserving.seen
    c.told_already.ensures.stays.work.pass.rises in
    let below = ge_from_not_lt c.see_end.result c.args.upto.0
    (sym c.lt.ensures ∙ c.if-lt.false) in
    let is = c.see_end.ensures.sees.end_is in
    subst (λ (s : Setup). c.args.upto.0
    ≤ end_form s (view_of c.told_already.new.seated).reserving.seen)
    (sym (same_setup c.args.seated.now c.told_already.new.seated (before g at
    (seen g path.After-see_end)).same_table))
    (omega (arith, higher, below, is))

pub harden_copied-requires-clause-rests : goal.harden_copied-requires-clause-rests
harden_copied-requires-clause-rests g c =
    let path = goal.at.harden_copied-requires-clause-rests g c in
    no_turn g path.After-told_already
    (seen g path.After-see_end)

pub returns-clause-tries : goal.returns-clause-tries
returns-clause-tries g c =
    let path = goal.at.returns-clause-tries g c in
    let at = path.After-told_already in
    let sees = seen g path.After-see_end in
    tried_behind c.args.upto.0 (view_of c.args.seated.now) (view_of c.told_already.new.seated)
    (view_of c.harden_copied.new.seated) (before g at sees).work.pass
    (c.in_default.ensures.told.0 ∙ sees.leaves.log)
    (both_up (view_of c.args.seated.now) (view_of c.told_already.new.seated) c.requires.up
    c.in_default.ensures.told.2) c.harden_copied.result c.harden_copied.ensures.tries

pub returns-clause-works : goal.returns-clause-works
returns-clause-works g c =
    let path = goal.at.returns-clause-works g c in
    works_on c.args.seated.now c.told_already.new.seated
    c.harden_copied.new.seated (before g path.After-told_already
    (seen g path.After-see_end))
    c.harden_copied.ensures.works

-- ---- the flushed address is looked at first

looked : (g : Over) (c : After-see_end g) → view_of c.see_end.new.seated
    ≡ view_looked 0 (view_of c.see_end.new.seated).reserving.seen (view_of c.args.seated.now)
looked g c = looked_is (view_of c.args.seated.now) (view_of c.see_end.new.seated)
    (view_of c.see_end.new.seated).reserving.seen c.requires.up (view_is c.see_end.ensures.view)

pub returns-then-lt-clause-only_unflushed : goal.returns-then-lt-clause-only_unflushed
returns-then-lt-clause-only_unflushed g c = inl (
  (view_of c.see_end.new.seated).reserving.seen,
  looked g (goal.at.returns-then-lt-clause-only_unflushed g c).After-see_end,
)

pub returns-in-Some-clause-only_unflushed : goal.returns-in-Some-clause-only_unflushed
returns-in-Some-clause-only_unflushed g c =
    told_at_once c.args.upto.0 (view_of c.args.seated.now) (view_of c.see_end.new.seated)
    (view_of c.see_end.new.seated).reserving.seen
    (looked g (goal.at.returns-in-Some-clause-only_unflushed g c).After-see_end)
    (view_of c.told_already.new.seated) c.in-Some.hard c.in-Some.ensures.loads

pub returns-clause-only_unflushed : goal.returns-clause-only_unflushed
returns-clause-only_unflushed g c = inr (found_unflushed c.args.upto.0
    (view_of c.args.seated.now) (view_of c.see_end.new.seated)
    (view_of c.see_end.new.seated).reserving.seen
    (looked g (goal.at.returns-clause-only_unflushed g c).After-see_end)
    c.in_default.ensures.loads)

-- ---- whether the address is reserved

sees_reserved : (g : Over) (c : After-see_end g) → c.args.upto.0 ≤ c.see_end.result
    → SeesReserved c.args.upto.0 (view_of c.args.seated.now)
sees_reserved g c below =
    let end_seen = (view_of c.see_end.new.seated).reserving.seen in
    let is = c.see_end.ensures.sees.end_is in record {
      seen = end_seen;
      position = c.see_end.ensures.met;
      reserved = subst (λ (s : Setup). c.args.upto.0 ≤ end_form s end_seen)
          (sym (own_setup c.args.seated.now)) (omega (arith, below, is));
    }

pub returns-then-lt-clause-reserved : goal.returns-then-lt-clause-reserved
returns-then-lt-clause-reserved g c =
    let end_seen = (view_of c.see_end.new.seated).reserving.seen in
    let is = c.see_end.ensures.sees.end_is in
    let less = lt_from_is_lt c.see_end.result c.args.upto.0 (sym c.lt.ensures ∙ c.if-lt.true) in
    record {
      seen = end_seen;
      position = c.see_end.ensures.met;
      above = subst (λ (s : Setup). end_form s end_seen < c.args.upto.0)
          (sym (own_setup c.args.seated.now)) (omega (arith, less, is));
    }

pub returns-in-Some-clause-reserved : goal.returns-in-Some-clause-reserved
returns-in-Some-clause-reserved g c =
    sees_reserved g (goal.at.returns-in-Some-clause-reserved g c).After-see_end
    (ge_from_not_lt c.see_end.result c.args.upto.0 (sym c.lt.ensures ∙ c.if-lt.false))

pub returns-clause-reserved : goal.returns-clause-reserved
returns-clause-reserved g c =
    let path = goal.at.returns-clause-reserved g c in
    let below = ge_from_not_lt c.see_end.result c.args.upto.0
    (sym c.lt.ensures ∙ c.if-lt.false) in
    let sees = sees_reserved g path.After-see_end below in
    let mid = c.told_already.new.seated in
    let keeps = (before g path.After-told_already (seen g path.After-see_end)).work.pass in
    let higher = end_address_of-mono (setup_of c.args.seated.now).seg_size
    (valid_size c.args.seated.now) (view_of c.see_end.new.seated).reserving.seen
    (view_of mid).reserving.seen c.told_already.ensures.stays.work.pass.rises in
    let is = c.see_end.ensures.sees.end_is in
    let same : (view_of mid).opening.setup ≡ setup_of c.args.seated.now =
    ap (λ o. o.setup) keeps.opening ∙ own_setup c.args.seated.now in
    sees_whether c.args.upto.0 (view_of mid) (view_of c.harden_copied.new.seated)
    (subst (λ (s : Setup). IsSegmentSize s.seg_size) (sym same)
    (valid_size c.args.seated.now))
    (subst (λ (s : Setup). c.args.upto.0 ≤ end_form s (view_of mid).reserving.seen) (sym same)
    (omega (arith, higher, below, is)))
    (view_of c.args.seated.now) sees c.harden_copied.result c.harden_copied.ensures.tries
