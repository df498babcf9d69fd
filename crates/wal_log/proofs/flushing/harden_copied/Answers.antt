use Rattle.std.proofs.Common.{◌≡◌, ℕ, ◌≤◌, sym, subst, ◌∙◌, arith}
use Rattle.std.proofs.lemmas.Result.{err_from_is_err_and}
use Rattle.byte_position.specs.Geometry.{IsSegmentSize}
use Rattle.byte_position.proofs.EndAddresses.{end_address_of-mono}
use Rattle.machine_state.specs.declared.setup.Setup.{Setup}
use Rattle.machine_state.specs.Words.{end_form}
use Rattle.machine_state.specs.Views.{View}
use Rattle.wal_rule.specs.SeatedPasses.{setup_of, view_of}
use Rattle.wal_types.specs.declared.lsn.Lsn.{Lsn}
use Rattle.insert_locks.specs.declared.numbers.LockNo.{LockNo}
use Rattle.insert_locks.specs.declared.watching.Watched.{Watched}
use Rattle.wal_log.specs.Flushing.{HasPassedLocks}
use Rattle.wal_log.specs.Standing.{AddsNothing}
use Rattle.wal_log.proofs.AddingNothing.{adds_on, works_on}
use Rattle.wal_log.proofs.FlushLaws.{is_to_be_flushed, tells_turn, tried_behind}
use Rattle.wal_log.proofs.Keeping.{both_up}
use Rattle.wal_log.proofs.Seated.{own_setup, same_setup, valid_size}
use Rattle.wal_log.proofs.Watched.{Watches, behind_leaves, behind_word, copied_is, finished_leaves, passed_locks, reached, still_no_turn, watches}
use Rattle.wal_log.proofs.flushing.harden_copied.Given.{Over}
use Rattle.wal_log.proofs.flushing.harden_copied.Goals as goal
use Rattle.wal_log.proofs.flushing.harden_copied.Goals.{After-take_ready, After-watch}

module _ (g : Over) (c : After-watch g) where
  abbrev old : View
  old = view_of c.args.seated.now

  size : IsSegmentSize old.opening.setup.seg_size
  size = subst (λ (s : Setup). IsSegmentSize s.seg_size) (sym (own_setup c.args.seated.now))
      (valid_size c.args.seated.now)

  reserved : c.args.upto.0 ≤ end_form old.opening.setup old.reserving.seen
  reserved = subst (λ (s : Setup). c.args.upto.0 ≤ end_form s old.reserving.seen)
      (sym (own_setup c.args.seated.now)) c.requires.reserved

  held_back : (lock : LockNo) (word : ℕ) → c.watch.result ≡ Watched.Behind lock word
      → Watches c.args.seated.now c.watch.new.seated
  held_back lock word is = watches c.args.seated.now c.watch.new.seated c.watch.ensures.stays
      (behind_leaves c.args.upto.0 old (view_of c.watch.new.seated) lock.0 word
      (c.watch.ensures.behind lock word is))

  all_seen : (bound : Lsn) → c.watch.result ≡ Watched.Finished bound
      → Watches c.args.seated.now c.watch.new.seated
  all_seen bound is = watches c.args.seated.now c.watch.new.seated c.watch.ensures.stays
      (finished_leaves c.args.upto.0 old (view_of c.watch.new.seated) bound.0
      (c.watch.ensures.finished bound is))

  all_passed : (bound : Lsn) → c.watch.result ≡ Watched.Finished bound
      → HasPassedLocks c.args.upto.0 (view_of c.watch.new.seated)
  all_passed bound is =
      let done = c.watch.ensures.finished bound is in
      passed_locks c.args.upto.0 old (view_of c.watch.new.seated) bound.0 done
      (reached c.args.upto.0 old (view_of c.watch.new.seated) bound.0 done size reserved)

-- ---- a lock held the watch back

pub returns-in-Behind-clause-tries : goal.returns-in-Behind-clause-tries
returns-in-Behind-clause-tries g c =
    let left = (held_back g (goal.at.returns-in-Behind-clause-tries g c).After-watch
    c.in-Behind.lock c.in-Behind.word c.in-Behind.is).leaves in
    let at = (goal.at.returns-in-Behind-clause-tries g c).After-watch in
    let above = c.requires.above in
    let same = left.flushed in (
      (
        behind_word c.args.upto.0 (view_of c.args.seated.now) (view_of c.watch.new.seated)
            c.in-Behind.lock.0 c.in-Behind.word
            (c.watch.ensures.behind c.in-Behind.lock c.in-Behind.word c.in-Behind.is),
        is_to_be_flushed c.args.upto.0 (view_of c.args.seated.now) (view_of c.watch.new.seated)
            (size g at) (reserved g at) left.work.pass (omega (arith, above, same))
            (left.up c.requires.up),
      ),
      left.log,
    )

pub returns-in-Behind-clause-works : goal.returns-in-Behind-clause-works
returns-in-Behind-clause-works g c =
    (held_back g (goal.at.returns-in-Behind-clause-works g c).After-watch c.in-Behind.lock
    c.in-Behind.word c.in-Behind.is).adds.works

pub returns-in-Behind-clause-rests : goal.returns-in-Behind-clause-rests
returns-in-Behind-clause-rests g c = still_no_turn c.args.seated.now c.watch.new.seated
    (held_back g (goal.at.returns-in-Behind-clause-rests g c).After-watch c.in-Behind.lock
    c.in-Behind.word c.in-Behind.is) c.requires.rests

-- ---- none did

pub take_ready-requires-clause-rests : goal.take_ready-requires-clause-rests
take_ready-requires-clause-rests g c = still_no_turn c.args.seated.now c.watch.new.seated
    (all_seen g (goal.at.take_ready-requires-clause-rests g c).After-watch
    c.in-Finished.upto c.in-Finished.is) c.requires.rests

pub take_ready-requires-clause-up : goal.take_ready-requires-clause-up
take_ready-requires-clause-up g c =
    (all_seen g (goal.at.take_ready-requires-clause-up g c).After-watch
    c.in-Finished.upto c.in-Finished.is).leaves.up c.requires.up

module _ (g : Over) (c : After-take_ready g)
    (seen : Watches c.args.seated.now c.watch.new.seated) where
  tried : AddsNothing c.args.seated.now c.take_ready.new.seated
  tried = adds_on c.args.seated.now c.watch.new.seated c.take_ready.new.seated seen.adds
      c.take_ready.ensures.adds_nothing

pub returns-in_err-take_ready-clause-tries : goal.returns-in_err-take_ready-clause-tries
returns-in_err-take_ready-clause-tries g c =
    let path = goal.at.returns-in_err-take_ready-clause-tries g c in
    let exit = err_from_is_err_and c.from_residual.result c.from_residual.ensures.1 in
    let watched = path.After-watch in
    let seen = all_seen g watched c.in-Finished.upto c.in-Finished.is in
    let adds = tried g path.After-take_ready seen in
    let above = c.requires.above in
    let same = adds.flushed in
    rw (exit.1, exit.2) (
      tells_turn c.args.upto.0 (view_of c.args.seated.now) (view_of c.watch.new.seated)
          (view_of c.take_ready.new.seated) (size g watched) (reserved g watched)
          adds.works.work.pass seen.leaves.down_set
          (all_passed g watched c.in-Finished.upto c.in-Finished.is)
          (omega (arith, above, same)) _ c.in_err-take_ready.ensures.ready.0,
      adds.log,
    )

pub returns-in_err-take_ready-clause-works : goal.returns-in_err-take_ready-clause-works
returns-in_err-take_ready-clause-works g c =
    let path = goal.at.returns-in_err-take_ready-clause-works g c in
    (tried g path.After-take_ready
    (all_seen g path.After-watch c.in-Finished.upto c.in-Finished.is)).works

-- ---- the writer is in hand

pub harden_in_turn-requires-clause-known : goal.harden_in_turn-requires-clause-known
harden_in_turn-requires-clause-known g c =
    sym (c.in_ok-take_ready.ensures.ready.1
    ∙ copied_is c.args.upto.0 (view_of c.args.seated.now) (view_of c.watch.new.seated)
    c.in-Finished.upto.0 (c.watch.ensures.finished c.in-Finished.upto c.in-Finished.is))

pub harden_in_turn-requires-clause-reaches : goal.harden_in_turn-requires-clause-reaches
harden_in_turn-requires-clause-reaches g c =
    let at = (goal.at.harden_in_turn-requires-clause-reaches g c).After-watch in
    reached c.args.upto.0 (view_of c.args.seated.now) (view_of c.watch.new.seated)
    c.in-Finished.upto.0 (c.watch.ensures.finished c.in-Finished.upto c.in-Finished.is)
    (size g at) (reserved g at)

pub harden_in_turn-requires-clause-reserved : goal.harden_in_turn-requires-clause-reserved
harden_in_turn-requires-clause-reserved g c =
    let path = goal.at.harden_in_turn-requires-clause-reserved g c in
    let works = (tried g path.After-take_ready
    (all_seen g path.After-watch c.in-Finished.upto c.in-Finished.is)).works in
    let setup : Setup = setup_of c.args.seated.now in
    let higher = end_address_of-mono setup.seg_size (valid_size c.args.seated.now)
    (view_of c.args.seated.now).reserving.seen (view_of c.take_ready.new.seated).reserving.seen
    works.work.pass.rises in
    let before = c.requires.reserved in
    subst (λ (s : Setup). c.args.upto.0
    ≤ end_form s (view_of c.take_ready.new.seated).reserving.seen)
    (sym (same_setup c.args.seated.now c.take_ready.new.seated works.same_table))
    (omega (arith, higher, before))

pub returns-clause-tries : goal.returns-clause-tries
returns-clause-tries g c =
    let path = goal.at.returns-clause-tries g c in
    let adds = tried g path.After-take_ready
    (all_seen g path.After-watch c.in-Finished.upto c.in-Finished.is) in
    tried_behind c.args.upto.0 (view_of c.args.seated.now) (view_of c.take_ready.new.seated)
    (view_of c.harden_in_turn.new.seated) adds.works.work.pass adds.log
    (both_up (view_of c.args.seated.now) (view_of c.take_ready.new.seated) c.requires.up
    c.in_ok-take_ready.ensures.ready.2) c.harden_in_turn.result c.harden_in_turn.ensures.tries

pub returns-clause-works : goal.returns-clause-works
returns-clause-works g c =
    let path = goal.at.returns-clause-works g c in
    works_on c.args.seated.now c.take_ready.new.seated c.harden_in_turn.new.seated
    (tried g path.After-take_ready
    (all_seen g path.After-watch c.in-Finished.upto c.in-Finished.is)).works
    c.harden_in_turn.ensures.works
