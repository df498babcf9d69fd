use Rattle.std.proofs.Common.{◌≡◌, ℕ, List, MatchResult, Result, Ok, Err, refl, sym, ap, ◌∙◌, subst, arith}
use Rattle.machine_state.specs.Views.{View}
use Rattle.wal_rule.specs.declared.seated.SeatedPass.{SeatedPass}
use Rattle.wal_rule.specs.SeatedPasses.{view_of}
use Rattle.insert_locks.specs.Holding.{HasTold}
use Rattle.wal_log.specs.HeldLocks.{locks_of}
use Rattle.wal_log.specs.Downs.{KnowsNoFault}
use Rattle.wal_log.specs.PassLogs.{log_of_pass}
use Rattle.wal_log.specs.Standing.{AddsNothing, HasNoTurn, KeepsWork}
use Rattle.wal_log.specs.Writing.{TellsWriteErr}
use Rattle.wal_log.specs.declared.fault.Fault.TheVariants.{Disk, Down}
use Rattle.wal_log.specs.declared.writing.WriteErr.{WriteErr}
use Rattle.wal_log.specs.declared.writing.WriteErr.TheVariants.{Fault, Behind, Turn}
use Rattle.wal_log.proofs.AddingNothing.{adds_on}
use Rattle.wal_log.proofs.CopyLaws.{alone_still, stood_still}
use Rattle.wal_log.proofs.Keeping.{meets_since, told_pass}
use Rattle.wal_log.proofs.Seated.{hand_is, view_is}
use Rattle.wal_log.proofs.WriteLaws.{written_since}
use Rattle.wal_log.proofs.writing.write_early.Given.{Over}
use Rattle.wal_log.proofs.writing.write_early.Goals as goal
use Rattle.wal_log.proofs.writing.write_early.Goals.{After-tell_progress, After-write_copied}

-- what locks were told adds nothing
told_adds : {D : Type 0} → (old one : SeatedPass D) (locks : List ℕ) (upto : ℕ)
    → HasTold locks upto old one → AddsNothing old one
told_adds old one locks upto told = record {
  works = record {
    same_table = told.view.same_table;
    work = subst (λ (v : View). KeepsWork (view_of old) v) (sym (view_is told.view)) (record {
      pass = told_pass upto told.under (view_of old);
      place = refl;
      working = refl;
      stage = refl;
      confirmed = omega arith;
      async = refl;
    });
  };
  log = ap (λ (v : View). log_of_pass v) (view_is told.view);
  flushed = ap (λ (v : View). v.writing.flushed) (view_is told.view);
}

module _ (g : Over) (c : After-tell_progress g) where
  abbrev told : HasTold (locks_of c.args.held) (c.args.placed.now).next c.args.seated.now
      c.tell_progress.new.seated
  told = c.tell_progress.ensures.told

  told_up : KnowsNoFault (view_of c.tell_progress.new.seated)
  told_up = record {
    met = ap (λ (v : View). v.writing.down_met) (view_is told.view) ∙ c.requires.up.met;
    set = ap (λ (v : View). v.writing.down_set) (view_is told.view) ∙ c.requires.up.set;
  }

  told_rests : HasNoTurn c.tell_progress.new.seated
  told_rests = record {
    idle = ap (λ (v : View). v.writing.hold) (view_is told.view) ∙ c.requires.copies.under.hold;
    empty = hand_is told.view ∙ c.requires.copies.empty;
  }

pub write_copied-requires-clause-rests : goal.write_copied-requires-clause-rests
write_copied-requires-clause-rests g c =
    told_rests g (goal.at.write_copied-requires-clause-rests g c).After-tell_progress

pub write_copied-requires-clause-up : goal.write_copied-requires-clause-up
write_copied-requires-clause-up g c =
    told_up g (goal.at.write_copied-requires-clause-up g c).After-tell_progress

module _ (g : Over) (c : After-write_copied g) where
  adds : AddsNothing c.args.seated.now c.write_copied.new.seated
  adds = adds_on c.args.seated.now c.tell_progress.new.seated c.write_copied.new.seated
      (told_adds c.args.seated.now c.tell_progress.new.seated (locks_of c.args.held)
      (c.args.placed.now).next c.tell_progress.ensures.told)
      c.write_copied.ensures.adds_nothing

pub returns-clause-copies : goal.returns-clause-copies
returns-clause-copies g c =
    let added = adds g (goal.at.returns-clause-copies g c).After-write_copied in
    alone_still c.args.seated.now c.write_copied.new.seated (added.works).same_table
    (added.works).work c.write_copied.ensures.rests (locks_of c.args.held) c.args.placed.now
    c.requires.copies

pub returns-clause-copies_on : goal.returns-clause-copies_on
returns-clause-copies_on g c =
    let added = adds g (goal.at.returns-clause-copies_on g c).After-write_copied in
    stood_still c.args.placed.now c.args.seated.now c.write_copied.new.seated (record {
      stays = record {
        same_table = (added.works).same_table;
        same_hand = (c.write_copied.ensures.rests).empty ∙ sym c.requires.copies.empty;
      };
      keeps = ((added.works).work).pass;
      async = ((added.works).work).async;
    }) added.log ((added.works).work).working

-- what was told of the disk behind it
told_since : (upto : ℕ) (old one new : View) → one.writing.down_set ≡ old.writing.down_set
    → (e : WriteErr) → TellsWriteErr upto one new e → TellsWriteErr upto old new e
told_since upto old one new same (Fault (Disk faults)) told = told
told_since upto old one new same (Fault (Down faults)) told =
    meets_since old one new faults same told
told_since upto old one new same (Behind lock word) told = told
told_since upto old one new same (Turn turn) told = told

match_since : {A : Type 0} {Wrote WroteSince : Type 0} → (upto : ℕ) (old one new : View)
    → one.writing.down_set ≡ old.writing.down_set → (Wrote → WroteSince) → (r : Result A WriteErr)
    → MatchResult r (λ _. Wrote × KnowsNoFault new) (λ e. TellsWriteErr upto one new e)
    → MatchResult r (λ _. WroteSince × KnowsNoFault new) (λ e. TellsWriteErr upto old new e)
match_since upto old one new same since (Ok done) ends = (since ends.0, ends.1)
match_since upto old one new same since (Err e) ends = told_since upto old one new same e ends

pub returns-clause-ends : goal.returns-clause-ends
returns-clause-ends g c =
    let same = ap (λ (v : View). v.writing.down_set) (view_is (c.tell_progress.ensures.told).view) in
    let keeps = (((told_adds c.args.seated.now c.tell_progress.new.seated (locks_of c.args.held)
    (c.args.placed.now).next c.tell_progress.ensures.told).works).work).pass in
    match_since c.args.upto (view_of c.args.seated.now) (view_of c.tell_progress.new.seated)
    (view_of c.write_copied.new.seated) same
    (written_since g.D.Disk.tape g.D.Disk.moment g.D.Disk.faults c.args.upto
    (view_of c.args.seated.now) (view_of c.tell_progress.new.seated) c.write_copied.new.seated
    keeps)
    c.write_copied.result c.write_copied.ensures.ends
