use Rattle.std.proofs.Common.{◌≡◌, refl, ap, ◌∙◌}
use Rattle.machine_state.specs.Views.{View}
use Rattle.wal_rule.specs.SeatedPasses.{view_of}
use Rattle.word_ring.specs.InHand.{IsReady, lent_in, writer_in}
use Rattle.word_ring.proofs.HandLaws.{same_ready}
use Rattle.wal_log.specs.Writing.{stored_view}
use Rattle.wal_log.proofs.InHandLaws.{hand_stays, may_store}
use Rattle.wal_log.proofs.Plain.{written_stored}
use Rattle.wal_log.proofs.Seated.{hand_is, has_view, seat_stays, view_is, was_read}
use Rattle.wal_log.proofs.writing.store_written.Given.{Over}
use Rattle.wal_log.proofs.writing.store_written.Goals as goal
use Rattle.wal_log.proofs.writing.store_written.Goals.{After-store_written, After-writer_now-written}

module _ (g : Over) (c : After-writer_now-written g) where
  ready : IsReady g.D.Disk.tape g.D.Disk.moment g.D.Disk.faults c.writer_now-written.new.seated
  ready = same_ready g.D.Disk.tape g.D.Disk.moment g.D.Disk.faults c.args.seated.now
      c.writer_now-written.new.seated c.writer_now-written.ensures.same c.requires.ready

pub store_written-requires-clause-may : goal.store_written-requires-clause-may
store_written-requires-clause-may g c =
    let is = ready g (goal.at.store_written-requires-clause-may g c).After-writer_now-written in
    may_store (view_of c.writer_now-written.new.seated) (is.hand.0, is.hand.2.hold)

module _ (g : Over) (c : After-store_written g)
    (is : IsReady g.D.Disk.tape g.D.Disk.moment g.D.Disk.faults c.writer_now-written.new.seated)
  where
    abbrev v : View
    v = view_of c.writer_now-written.new.seated

    stored : view_of c.store_written.new.self ≡ stored_view v
    stored = view_is c.store_written.ensures.steps
        ∙ written_stored 0 v (is.hand.0, is.hand.2.hold)

pub returns-clause-ready : goal.returns-clause-ready
returns-clause-ready g c =
    let path = goal.at.returns-clause-ready g c in
    let at = path.After-store_written in
    let is = ready g path.After-writer_now-written in
    record {
      hand = hand_stays g.D.Disk.tape g.D.Disk.moment g.D.Disk.faults
          c.writer_now-written.new.seated c.store_written.new.self is.hand
          (seat_stays c.store_written.ensures.steps)
          (record (lent_in (v g at is).writing.hold) { stored = (writer_in (v g at is)).written })
          (ap (λ (x : View). x.writing.hold) (stored g at is)) refl;
      up = ap (λ (x : View). (writer_in x).fault) (stored g at is) ∙ is.up;
    }

pub returns-clause-view : goal.returns-clause-view
returns-clause-view g c =
    let path = goal.at.returns-clause-view g c in
    let at = path.After-store_written in
    let is = ready g path.After-writer_now-written in
    let same = was_read c.writer_now-written.ensures.same in
    has_view (c.store_written.ensures.steps.same_table ∙ same.same_table)
    (stored g at is ∙ ap (λ (x : View). stored_view x) (view_is same))
    (hand_is c.store_written.ensures.steps ∙ hand_is same)

pub returns-clause-written : goal.returns-clause-written
returns-clause-written g c = c.writer_now-written.ensures.read.written
