use Rattle.std.proofs.Common.{◌≡◌, ◌≤◌, ℕ, refl, sym, ap, subst, ◌∙◌, arith}
use mathlib.Core.Option.{none}
use Rattle.machine_state.specs.Steps.{store_moment, view_behind, MayStep}
use Rattle.machine_state.specs.Views.{Out, View}
use Rattle.wal_rule.specs.SeatedPasses.{StaysSeated, view_of}
use Rattle.word_ring.specs.InHand.{lent_in, writer_in}
use Rattle.word_ring.proofs.HandLaws.{HasLent}
use Rattle.wal_log.specs.Hands.{IsLatestPromise}
use Rattle.wal_log.proofs.FlushLaws.{hard_lent, hard_told, may_store_moment, may_tell, promises_are_low, since_opening, stores_moment, told_is, told_view, told_work}
use Rattle.wal_log.proofs.InHandLaws.{hand_stays}
use Rattle.wal_log.proofs.Seated.{further_seated, seat_stays, view_is, was_read}
use Rattle.wal_log.proofs.flushing.store_hard.Given.{Over}
use Rattle.wal_log.proofs.flushing.store_hard.Goals as goal
use Rattle.wal_log.proofs.flushing.store_hard.Goals.{After-store_flushed, After-store_moment, After-writer_now-now}

module _ (g : Over) (c : After-writer_now-now g) where
  abbrev old : View
  old = view_of c.args.seated.now

  has : HasLent old
  has = (c.requires.stored.ready.hand.0, c.requires.stored.ready.hand.2.hold)

  read : view_of c.writer_now-now.new.seated ≡ old
  read = view_is (was_read c.writer_now-now.ensures.same)

pub store_moment-requires-clause-may : goal.store_moment-requires-clause-may
store_moment-requires-clause-may g c =
    let at = (goal.at.store_moment-requires-clause-may g c).After-writer_now-now in
    subst (λ (v : View). MayStep v store_moment) (sym (read g at))
    (may_store_moment (old g at) (has g at) c.requires.stored.ready.up c.requires.synced)

module _ (g : Over) (c : After-store_moment g)
    (same : view_of c.writer_now-now.new.seated ≡ view_of c.args.seated.now) where
  first : view_of c.store_moment.new.self
      ≡ view_behind (view_of c.args.seated.now) store_moment 0 none
  first = view_is c.store_moment.ensures.steps
      ∙ ap (λ (v : View). view_behind v store_moment 0 none) same

pub store_flushed-requires-clause-may : goal.store_flushed-requires-clause-may
store_flushed-requires-clause-may g c =
    let path = goal.at.store_flushed-requires-clause-may g c in
    let at = path.After-store_moment in
    let here = path.After-writer_now-now in
    may_tell (view_of c.args.seated.now) (view_of c.store_moment.new.self)
    (has g here) (first g at (read g here)) c.requires.stored.stored

module _ (g : Over) (c : After-store_flushed g) (lent : HasLent (view_of c.args.seated.now))
    (one : view_of c.store_moment.new.self
    ≡ view_behind (view_of c.args.seated.now) store_moment 0 none) where
  abbrev begun : View
  begun = view_of c.args.seated.now

  abbrev written : ℕ
  written = c.writer_now-now.result.written

  abbrev moment : ℕ
  moment = c.writer_now-now.result.moment

  told : view_of c.store_flushed.new.self ≡ told_view written moment begun.writing.flushed
      (Out (hard_lent (lent_in begun.writing.hold))) begun
  told = hard_told begun (view_of c.store_moment.new.self) lent one
      (view_of c.store_flushed.new.self) (view_is c.store_flushed.ensures.steps) written moment
      c.writer_now-now.ensures.read.written c.writer_now-now.ensures.read.moment

  latest : IsLatestPromise written moment begun
  latest =
      let low = promises_are_low begun lent
      c.args.seated.now.seated.stands in
      subst (λ (m : ℕ). IsLatestPromise written m begun)
      (sym c.writer_now-now.ensures.read.moment)
      (subst (λ (n : ℕ). IsLatestPromise n (writer_in begun).moment begun)
      (sym c.writer_now-now.ensures.read.written) low)

  since : begun.opening.moment ≤ moment
  since =
      let low = since_opening begun lent
      c.args.seated.now.seated.stands in
      let is = c.writer_now-now.ensures.read.moment in
      omega (arith, low, is)

  seats : StaysSeated c.args.seated.now c.store_flushed.new.self
  seats = further_seated c.args.seated.now c.store_moment.new.self c.store_flushed.new.self
      (further_seated c.args.seated.now c.writer_now-now.new.seated c.store_moment.new.self
      (seat_stays (was_read c.writer_now-now.ensures.same))
      (seat_stays c.store_moment.ensures.steps))
      (seat_stays c.store_flushed.ensures.steps)

pub returns-clause-told : goal.returns-clause-told
returns-clause-told g c =
    let path = goal.at.returns-clause-told g c in
    let old = view_of c.args.seated.now in
    let written = c.writer_now-now.result.written in
    let moment = c.writer_now-now.result.moment in
    let lent = has g path.After-writer_now-now in
    let one = first g path.After-store_moment (read g path.After-writer_now-now) in
    let at = path.After-store_flushed in
    let new = view_of c.store_flushed.new.self in
    let work = told_work written moment old.writing.flushed
    (Out (hard_lent (lent_in old.writing.hold))) old new (told g at lent one) in (
      c.writer_now-now.ensures.read.written,
      told_is written moment old.writing.flushed (Out (hard_lent (lent_in old.writing.hold))) old
          new (told g at lent one) written (omega arith)
          (since g at lent one)
          (stores_moment old lent c.args.seated.now.seated.stands c.requires.stored.ready.up
          c.requires.synced moment c.writer_now-now.ensures.read.moment new work.pass)
          c.requires.stored.up (latest g at lent one),
    )

pub returns-clause-stored : goal.returns-clause-stored
returns-clause-stored g c =
    let path = goal.at.returns-clause-stored g c in
    let lent = has g path.After-writer_now-now in
    let one = first g path.After-store_moment (read g path.After-writer_now-now) in
    let at = path.After-store_flushed in
    let is = told g at lent one in
    let same = ap (λ (v : View). (writer_in v).written) is in
    let read_it = c.writer_now-now.ensures.read.written in (
      record {
        ready = record {
          hand = hand_stays g.D.Disk.tape g.D.Disk.moment g.D.Disk.faults c.args.seated.now
              c.store_flushed.new.self c.requires.stored.ready.hand (seats g at lent one)
              (hard_lent (lent_in (view_of c.args.seated.now).writing.hold))
              (ap (λ (v : View). v.writing.hold) is) refl;
          up = ap (λ (v : View). (writer_in v).fault) is ∙ c.requires.stored.ready.up;
        };
        stored = ap (λ (v : View). (lent_in v.writing.hold).stored) is ∙ c.requires.stored.stored
            ∙ sym same;
        up = record {
          met = ap (λ (v : View). v.writing.down_met) is ∙ c.requires.stored.up.met;
          set = ap (λ (v : View). v.writing.down_set) is ∙ c.requires.stored.up.set;
        };
      },
      omega (arith, same, read_it),
    )

pub returns-clause-writer : goal.returns-clause-writer
returns-clause-writer g c =
    let path = goal.at.returns-clause-writer g c in
    ap (λ (v : View). writer_in v)
    (told g path.After-store_flushed (has g path.After-writer_now-now)
    (first g path.After-store_moment (read g path.After-writer_now-now)))

pub returns-clause-flushed : goal.returns-clause-flushed
returns-clause-flushed g c =
    let path = goal.at.returns-clause-flushed g c in
    ap (λ (v : View). v.writing.flushed)
    (told g path.After-store_flushed (has g path.After-writer_now-now)
    (first g path.After-store_moment (read g path.After-writer_now-now)))

pub returns-clause-works : goal.returns-clause-works
returns-clause-works g c =
    let path = goal.at.returns-clause-works g c in
    let old = view_of c.args.seated.now in
    let lent = has g path.After-writer_now-now in
    let one = first g path.After-store_moment (read g path.After-writer_now-now) in
    let at = path.After-store_flushed in record {
      same_table = (seats g at lent one).same_table;
      work = told_work c.writer_now-now.result.written c.writer_now-now.result.moment
          old.writing.flushed (Out (hard_lent (lent_in old.writing.hold))) old
          (view_of c.store_flushed.new.self) (told g at lent one);
    }
