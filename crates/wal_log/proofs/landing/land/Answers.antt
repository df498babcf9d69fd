use Rattle.std.proofs.Common.{◌≡◌, ap, sym, ◌∙◌, subst}
use mathlib.Core.Option.{some}
use Rattle.wal_page.specs.EntryWords.{words_owned}
use Rattle.wal_page.specs.Order.{Entry}
use Rattle.wal_page.specs.Placed.{placed_end}
use Rattle.machine_state.specs.Views.{View}
use Rattle.wal_rule.specs.SeatedPasses.{setup_of, view_of}
use Rattle.wal_log.specs.HeldLocks.{locks_of}
use Rattle.wal_log.specs.Standing.{KeepsPass, entry_in_flight}
use Rattle.wal_log.proofs.CopyLaws.{alone_whole}
use Rattle.wal_log.proofs.Keeping.{same_pass}
use Rattle.wal_log.proofs.LandLaws.{copy_failed, landed_fault, landed_is_rest, landed_keeps, landed_log, landed_up}
use Rattle.wal_log.proofs.Seated.{hand_is, view_is}
use Rattle.wal_log.proofs.Unlocking.{locks_under, none_left, rested, rested_keeps, strands}
use Rattle.wal_log.proofs.WholeLaws.{copies_last, copies_whole}
use Rattle.wal_log.proofs.landing.land.Given.{Over}
use Rattle.wal_log.proofs.landing.land.Goals as goal
use Rattle.wal_log.proofs.landing.land.Goals.{After-copy_whole}

module _ (g : Over) (c : After-copy_whole g) where
  -- behind the last word all are copied
  all_copied : c.copy_whole.new.placed.next ≡ placed_end c.args.placed.now
      → c.copy_whole.ensures.copies.under.copy.copied
      ≡ words_owned (view_of c.copy_whole.new.seated).opening.setup.seg_size
      c.copy_whole.ensures.copies.under.copy.entry
  all_copied = alone_whole c.copy_whole.new.seated (locks_of c.args.held)
      c.copy_whole.new.placed c.copy_whole.ensures.copies c.args.placed.now
      c.copy_whole.ensures.copies_on.place

pub release_held-requires-clause-locks : goal.release_held-requires-clause-locks
release_held-requires-clause-locks g c = c.copy_whole.ensures.copies.are

pub release_held-requires-clause-holds : goal.release_held-requires-clause-holds
release_held-requires-clause-holds g c =
    locks_under (setup_of c.copy_whole.new.seated) (locks_of c.args.held)
    c.copy_whole.new.placed (view_of c.copy_whole.new.seated) c.copy_whole.ensures.copies.under

pub release_held-requires-clause-left : goal.release_held-requires-clause-left
release_held-requires-clause-left g c =
    let copied = c.copy_whole.ensures in
    none_left (setup_of c.copy_whole.new.seated) (locks_of c.args.held) c.copy_whole.new.placed
    (view_of c.copy_whole.new.seated) copied.copies.under copied.copies.some
    (all_copied g (goal.at.release_held-requires-clause-left g c).After-copy_whole
    c.in-Ok.ensures.ends.0)

pub give_up-requires : goal.give_up-requires
give_up-requires g c = record {
  stranded = strands (setup_of c.copy_whole.new.seated) (locks_of c.args.held)
      c.copy_whole.new.placed (view_of c.copy_whole.new.seated)
      c.copy_whole.ensures.copies.under
      (copy_failed (view_of c.args.seated.now) (view_of c.copy_whole.new.seated) c.in-Err.fault
      c.in-Err.ensures.ends);
}

-- ---- it is copied whole

pub returns-in-Ok-clause-lands : goal.returns-in-Ok-clause-lands
returns-in-Ok-clause-lands g c =
    let copied = c.copy_whole.ensures in
    let v : View = view_of c.copy_whole.new.seated in
    let landed : view_of c.release_held.new.seated ≡ rested v = view_is c.release_held.ensures.view in
    λ (e : Entry) (flies : entry_in_flight (view_of c.args.seated.now) ≡ some e). (
      copies_whole (setup_of c.copy_whole.new.seated) (locks_of c.args.held)
          c.copy_whole.new.placed (view_of c.args.seated.now) v (view_of c.release_held.new.seated)
          copied.copies.under c.copy_whole.new.seated.seated.stands
          (all_copied g (goal.at.returns-in-Ok-clause-lands g c).After-copy_whole
          c.in-Ok.ensures.ends.0) e (copied.copies_on.entry ∙ flies)
          copied.copies_on.goes_on.keeps
          (subst (KeepsPass v) (sym landed) (rested_keeps v v (same_pass v))),
      landed_up (setup_of c.copy_whole.new.seated) (locks_of c.args.held)
          c.copy_whole.new.placed (view_of c.args.seated.now) v (view_of c.release_held.new.seated)
          copied.copies.under landed c.in-Ok.ensures.ends.1,
    )

pub returns-in-Ok-clause-last : goal.returns-in-Ok-clause-last
returns-in-Ok-clause-last g c =
    let copied = c.copy_whole.ensures in
    let v : View = view_of c.copy_whole.new.seated in
    let landed : view_of c.release_held.new.seated ≡ rested v = view_is c.release_held.ensures.view in
    λ (e : Entry) (flies : entry_in_flight (view_of c.args.seated.now) ≡ some e).
    copies_last (setup_of c.copy_whole.new.seated) (locks_of c.args.held)
    c.copy_whole.new.placed (view_of c.args.seated.now) v (view_of c.release_held.new.seated)
    copied.copies.under c.copy_whole.new.seated.seated.stands
    (all_copied g (goal.at.returns-in-Ok-clause-last g c).After-copy_whole
    c.in-Ok.ensures.ends.0) e (copied.copies_on.entry ∙ flies)
    copied.copies_on.goes_on.keeps
    (subst (KeepsPass v) (sym landed) (rested_keeps v v (same_pass v))) landed

pub returns-in-Ok-clause-log : goal.returns-in-Ok-clause-log
returns-in-Ok-clause-log g c =
    let copied = c.copy_whole.ensures in
    landed_log (setup_of c.copy_whole.new.seated) (locks_of c.args.held) c.copy_whole.new.placed
    (view_of c.args.seated.now) (view_of c.copy_whole.new.seated) (view_of c.release_held.new.seated)
    copied.copies.under (view_is c.release_held.ensures.view) copied.copies_on.log

pub returns-in-Ok-clause-rests : goal.returns-in-Ok-clause-rests
returns-in-Ok-clause-rests g c =
    let copied = c.copy_whole.ensures in
    let v : View = view_of c.copy_whole.new.seated in record {
      same_table = c.release_held.ensures.view.same_table
          ∙ copied.copies_on.goes_on.stays.same_table;
      keeps = landed_keeps (setup_of c.copy_whole.new.seated) (locks_of c.args.held)
          c.copy_whole.new.placed (view_of c.args.seated.now) v (view_of c.release_held.new.seated)
          copied.copies.under (view_is c.release_held.ensures.view) copied.copies_on.goes_on.keeps;
      rests = record {
        rests = landed_is_rest (setup_of c.copy_whole.new.seated) (locks_of c.args.held)
            c.copy_whole.new.placed (view_of c.args.seated.now) v
            (view_of c.release_held.new.seated) copied.copies.under (view_is c.release_held.ensures.view);
        empty = hand_is c.release_held.ensures.view ∙ copied.copies.empty;
      };
    }

pub returns-in-Ok-clause-async_met : goal.returns-in-Ok-clause-async_met
returns-in-Ok-clause-async_met g c = ap (λ (v : View). v.async_met) (view_is c.release_held.ensures.view)
    ∙ c.copy_whole.ensures.copies_on.goes_on.async

-- ---- it was given up

pub returns-in-Err-clause-async_met : goal.returns-in-Err-clause-async_met
returns-in-Err-clause-async_met g c = ap (λ (v : View). v.async_met) (view_is c.give_up.ensures.view)
    ∙ c.copy_whole.ensures.copies_on.goes_on.async

pub returns-in-Err-clause-lands : goal.returns-in-Err-clause-lands
returns-in-Err-clause-lands g c =
    let copied = c.copy_whole.ensures in
    λ (e : Entry) (flies : entry_in_flight (view_of c.args.seated.now) ≡ some e).
    landed_fault (setup_of c.copy_whole.new.seated) (locks_of c.args.held)
    c.copy_whole.new.placed (view_of c.args.seated.now) (view_of c.copy_whole.new.seated)
    (view_of c.give_up.new.self) copied.copies.under (view_is c.give_up.ensures.view)
    c.in-Err.fault c.in-Err.ensures.ends

pub returns-in-Err-clause-log : goal.returns-in-Err-clause-log
returns-in-Err-clause-log g c =
    let copied = c.copy_whole.ensures in
    landed_log (setup_of c.copy_whole.new.seated) (locks_of c.args.held) c.copy_whole.new.placed
    (view_of c.args.seated.now) (view_of c.copy_whole.new.seated) (view_of c.give_up.new.self)
    copied.copies.under (view_is c.give_up.ensures.view) copied.copies_on.log

pub returns-in-Err-clause-rests : goal.returns-in-Err-clause-rests
returns-in-Err-clause-rests g c =
    let copied = c.copy_whole.ensures in
    let v : View = view_of c.copy_whole.new.seated in record {
      same_table = c.give_up.ensures.view.same_table
          ∙ copied.copies_on.goes_on.stays.same_table;
      keeps = landed_keeps (setup_of c.copy_whole.new.seated) (locks_of c.args.held)
          c.copy_whole.new.placed (view_of c.args.seated.now) v (view_of c.give_up.new.self)
          copied.copies.under (view_is c.give_up.ensures.view) copied.copies_on.goes_on.keeps;
      rests = record {
        rests = landed_is_rest (setup_of c.copy_whole.new.seated) (locks_of c.args.held)
            c.copy_whole.new.placed (view_of c.args.seated.now) v (view_of c.give_up.new.self)
            copied.copies.under (view_is c.give_up.ensures.view);
        empty = hand_is c.give_up.ensures.view ∙ copied.copies.empty;
      };
    }
