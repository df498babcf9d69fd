use Rattle.std.proofs.Common.{◌≡◌, ℕ, ap, ◌∙◌, subst, sym, arith}
use Rattle.std.proofs.lemmas.Result.{err_from_is_err_and}
use Rattle.flush_core.specs.Calls.{waiting_calls}
use Rattle.machine_state.specs.Views.{Plain}
use Rattle.machine_state.specs.declared.setup.Setup.{Setup}
use Rattle.wal_rule.specs.SeatedPasses.{setup_of, view_of}
use Rattle.word_ring.specs.InHand.{writer_in}
use Rattle.word_ring.specs.MadeCalls.{HasBrokenOff, HasCalled, calls_to_flush}
use Rattle.word_ring.proofs.HandLaws.{same_setup}
use Rattle.wal_log.proofs.AddingNothing.{adds_on, hand_changed}
use Rattle.wal_log.proofs.FlushLaws.{told_behind}
use Rattle.wal_log.proofs.Keeping.{changes_up}
use Rattle.wal_log.proofs.WritingCalls.{flush_breaks, flush_ends, flush_fails}
use Rattle.wal_log.proofs.flushing.flush_in_hand.Given.{Over}
use Rattle.wal_log.proofs.flushing.flush_in_hand.Goals as goal
use Rattle.wal_log.proofs.flushing.flush_in_hand.Goals.{After-sync_written}

-- ---- a write failed

pub returns-in_err-write_pages-clause-told : goal.returns-in_err-write_pages-clause-told
returns-in_err-write_pages-clause-told g c =
    let p = err_from_is_err_and c.from_residual.result c.from_residual.ensures.1 in
    rw (p.1, p.2) (c.in_err-write_pages.ensures.ends, c.write_pages.ensures.adds_nothing.log)

pub returns-in_err-write_pages-clause-calls : goal.returns-in_err-write_pages-clause-calls
returns-in_err-write_pages-clause-calls g c =
    let a = c.args.seated.now in
    let p = err_from_is_err_and c.from_residual.result c.from_residual.ensures.1 in
    let breaks = c.in_err-write_pages.ensures.calls in
    rw (p.1) (
      breaks.bytes,
      flush_breaks (setup_of a).seg_size c.args.known (writer_in (view_of a)) breaks.bytes
          (writer_in (view_of c.write_pages.new.seated)) breaks.broken,
    )

-- ---- all was written

module _ (g : Over) (c : After-sync_written g) where
  same_size : (setup_of c.write_pages.new.seated).seg_size
      ≡ (setup_of c.args.seated.now).seg_size
  same_size = ap (λ (t : Setup). t.seg_size) (same_setup c.args.seated.now
      c.write_pages.new.seated c.write_pages.ensures.adds_nothing.works.same_table)

-- ---- the sync failed

pub returns-in_err-sync_written-clause-told : goal.returns-in_err-sync_written-clause-told
returns-in_err-sync_written-clause-told g c =
    let p = err_from_is_err_and c.from_residual-in_err-sync_written.result
    c.from_residual-in_err-sync_written.ensures.1 in
    let ends = c.in_err-sync_written.ensures.ends in
    let stored = c.in_ok-write_pages.ensures.ends.0 in
    let synced = hand_changed c.write_pages.new.seated c.sync_written.new.seated ends.changes in
    rw (p.1, p.2) (
      record {
        hand = ends.hand;
        fault = ends.told;
        up = changes_up c.write_pages.new.seated c.sync_written.new.seated ends.changes stored.up;
      },
      synced.log ∙ c.write_pages.ensures.adds_nothing.log,
    )

pub returns-in_err-sync_written-clause-calls : goal.returns-in_err-sync_written-clause-calls
returns-in_err-sync_written-clause-calls g c =
    let a = c.args.seated.now in
    let w = writer_in (view_of c.write_pages.new.seated) in
    let synced = writer_in (view_of c.sync_written.new.seated) in
    let p = err_from_is_err_and c.from_residual-in_err-sync_written.result
    c.from_residual-in_err-sync_written.ensures.1 in
    let wrote = c.in_ok-write_pages.ensures.calls in
    let size = same_size g
    (goal.at.returns-in_err-sync_written-clause-calls g c).After-sync_written in
    rw (p.1) (
      wrote.bytes,
      flush_fails (setup_of a).seg_size c.args.known (writer_in (view_of a)) w synced wrote
          (subst (λ (n : ℕ). HasBrokenOff (waiting_calls n w.waiting) w synced) size
          c.in_err-sync_written.ensures.ends.called),
    )

-- ---- all was synced

pub returns-clause-told : goal.returns-clause-told
returns-clause-told g c =
    let a = c.args.seated.now in
    let w = c.write_pages.new.seated in
    let s = c.sync_written.new.seated in
    let new = c.store_hard.new.seated in
    let ends = c.in_ok-sync_written.ensures.ends in
    let written = c.write_pages.ensures.adds_nothing in
    let synced = adds_on a w s written (hand_changed w s ends.changes) in
    let upto = c.store_hard.result.upto.0 in
    let is = c.store_hard.ensures.told.0 in
    let same = ends.told.written in
    let reaches = c.in_ok-write_pages.ensures.ends.1 in (
      omega (arith, is, same, reaches),
      told_behind upto upto c.store_hard.result.moment (view_of a) (view_of s) (view_of new)
          synced.log synced.works.work.pass upto (omega arith) c.store_hard.ensures.told.1,
      c.store_hard.ensures.stored.0,
    )

pub returns-clause-calls : goal.returns-clause-calls
returns-clause-calls g c =
    let a = c.args.seated.now in
    let w = writer_in (view_of c.write_pages.new.seated) in
    let synced = writer_in (view_of c.sync_written.new.seated) in
    let wrote = c.in_ok-write_pages.ensures.calls in
    let size = same_size g (goal.at.returns-clause-calls g c).After-sync_written in (
      wrote.bytes,
      subst (λ (x : Plain). HasCalled (calls_to_flush (setup_of a).seg_size c.args.known
          wrote.bytes (writer_in (view_of a))) (writer_in (view_of a)) x)
          (sym c.store_hard.ensures.writer)
          (flush_ends (setup_of a).seg_size c.args.known (writer_in (view_of a)) w synced wrote
          (subst (λ (n : ℕ). HasCalled (waiting_calls n w.waiting) w synced) size
          c.in_ok-sync_written.ensures.ends.called)),
    )
