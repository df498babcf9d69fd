use Rattle.std.proofs.Common.{◌≡◌, ℕ, sym, ap, ◌∙◌}
use Rattle.std.proofs.lemmas.Result.{err_from_is_err_and}
use Rattle.machine_state.specs.Views.{Idle, View}
use Rattle.wal_rule.specs.SeatedPasses.{view_of}
use Rattle.wal_types.specs.declared.lsn.Lsn.{Lsn}
use Rattle.insert_locks.specs.declared.numbers.LockNo.{LockNo}
use Rattle.insert_locks.specs.declared.watching.Watched.{Watched}
use Rattle.wal_log.specs.Downs.{KnowsNoFault}
use Rattle.wal_log.specs.Hands.{TellsTurnErr}
use Rattle.wal_log.specs.Standing.{AddsNothing}
use Rattle.wal_log.specs.Writing.{TellsWriteErr, write_err_of_turn}
use Rattle.wal_log.specs.declared.turns.TurnErr.{TurnErr}
use Rattle.wal_log.specs.declared.turns.TurnErr.TheVariants.{Down, Taken}
use Rattle.wal_log.proofs.AddingNothing.{adds_on, held_else}
use Rattle.wal_log.proofs.InHandLaws.{may_put_stored}
use Rattle.wal_log.proofs.Keeping.{both_up, meets_since, same_pass, still_up}
use Rattle.wal_log.proofs.Watched.{Watches, behind_leaves, behind_word, copied_is, finished_leaves, still_no_turn, watches}
use Rattle.wal_log.proofs.writing.write_copied.Given.{Over}
use Rattle.wal_log.proofs.writing.write_copied.Goals as goal
use Rattle.wal_log.proofs.writing.write_copied.Goals.{After-give_back, After-take_ready, After-watch, After-write_known}

-- ---- behind the watch

module _ (g : Over) (c : After-watch g) where
  behind : (lock : LockNo) (word : ℕ) → c.watch.result ≡ Watched.Behind lock word
      → Watches c.args.seated.now c.watch.new.seated
  behind lock word is = watches c.args.seated.now c.watch.new.seated c.watch.ensures.stays
      (behind_leaves c.args.upto (view_of c.args.seated.now) (view_of c.watch.new.seated) lock.0 word
      (c.watch.ensures.behind lock word is))

  all_seen : (bound : Lsn) → c.watch.result ≡ Watched.Finished bound
      → Watches c.args.seated.now c.watch.new.seated
  all_seen bound is = watches c.args.seated.now c.watch.new.seated c.watch.ensures.stays
      (finished_leaves c.args.upto (view_of c.args.seated.now) (view_of c.watch.new.seated) bound.0
      (c.watch.ensures.finished bound is))

pub returns-in-Behind-clause-adds_nothing : goal.returns-in-Behind-clause-adds_nothing
returns-in-Behind-clause-adds_nothing g c =
    (behind g (goal.at.returns-in-Behind-clause-adds_nothing g c).After-watch c.in-Behind.lock
    c.in-Behind.word c.in-Behind.is).adds

pub returns-in-Behind-clause-rests : goal.returns-in-Behind-clause-rests
returns-in-Behind-clause-rests g c = still_no_turn c.args.seated.now c.watch.new.seated
    (behind g (goal.at.returns-in-Behind-clause-rests g c).After-watch c.in-Behind.lock
    c.in-Behind.word c.in-Behind.is) c.requires.rests

pub returns-in-Behind-clause-ends : goal.returns-in-Behind-clause-ends
returns-in-Behind-clause-ends g c = (
  behind_word c.args.upto (view_of c.args.seated.now) (view_of c.watch.new.seated)
      c.in-Behind.lock.0 c.in-Behind.word
      (c.watch.ensures.behind c.in-Behind.lock c.in-Behind.word c.in-Behind.is),
  (behind g (goal.at.returns-in-Behind-clause-ends g c).After-watch
      c.in-Behind.lock c.in-Behind.word c.in-Behind.is).leaves.up c.requires.up,
)

pub take_ready-requires-clause-rests : goal.take_ready-requires-clause-rests
take_ready-requires-clause-rests g c = still_no_turn c.args.seated.now c.watch.new.seated
    (all_seen g (goal.at.take_ready-requires-clause-rests g c).After-watch
    c.in-Finished.upto c.in-Finished.is) c.requires.rests

pub take_ready-requires-clause-up : goal.take_ready-requires-clause-up
take_ready-requires-clause-up g c =
    (all_seen g (goal.at.take_ready-requires-clause-up g c).After-watch
    c.in-Finished.upto c.in-Finished.is).leaves.up c.requires.up

-- ---- the turn was not had

write_told : (upto : ℕ) (old watched new : View) → KnowsNoFault old → KnowsNoFault watched
    → (e : TurnErr) → TellsTurnErr watched new e → TellsWriteErr upto old new (write_err_of_turn e)
write_told upto old watched new before up (Down faults) told =
    meets_since old watched new faults (both_up old watched before up) told
write_told upto old watched new before up (Taken turn) told = (told.0, told.2)

module _ (g : Over) (c : After-take_ready g)
    (seen : Watches c.args.seated.now c.watch.new.seated) where
  tried : AddsNothing c.args.seated.now c.take_ready.new.seated
  tried = adds_on c.args.seated.now c.watch.new.seated c.take_ready.new.seated seen.adds
      c.take_ready.ensures.adds_nothing

pub returns-in_err-take_ready-clause-adds_nothing : goal.returns-in_err-take_ready-clause-adds_nothing
returns-in_err-take_ready-clause-adds_nothing g c =
    let path = goal.at.returns-in_err-take_ready-clause-adds_nothing g c in
    tried g path.After-take_ready
    (all_seen g path.After-watch c.in-Finished.upto c.in-Finished.is)

pub returns-in_err-take_ready-clause-rests : goal.returns-in_err-take_ready-clause-rests
returns-in_err-take_ready-clause-rests g c = c.in_err-take_ready.ensures.ready.1

pub returns-in_err-take_ready-clause-ends : goal.returns-in_err-take_ready-clause-ends
returns-in_err-take_ready-clause-ends g c =
    let p = err_from_is_err_and c.from_residual.result c.from_residual.ensures.1 in
    let watched = all_seen g (goal.at.returns-in_err-take_ready-clause-ends g c).After-watch
    c.in-Finished.upto c.in-Finished.is in
    rw (p.1, p.2)
    (write_told c.args.upto (view_of c.args.seated.now) (view_of c.watch.new.seated)
    (view_of c.take_ready.new.seated) c.requires.up (watched.leaves.up c.requires.up)
    c.in_err-take_ready.field-0.0 c.in_err-take_ready.ensures.ready.0)

-- ---- the turn was had

pub write_known-requires-clause-known : goal.write_known-requires-clause-known
write_known-requires-clause-known g c =
    let done = c.watch.ensures.finished c.in-Finished.upto c.in-Finished.is in
    sym (c.in_ok-take_ready.ensures.ready.1
    ∙ copied_is c.args.upto (view_of c.args.seated.now) (view_of c.watch.new.seated)
    c.in-Finished.upto.0 done)

module _ (g : Over) (c : After-write_known g)
    (before : AddsNothing c.args.seated.now c.take_ready.new.seated) where
  written : AddsNothing c.args.seated.now c.write_known.new.seated
  written = adds_on c.args.seated.now c.take_ready.new.seated c.write_known.new.seated before
      c.write_known.ensures.adds_nothing

pub returns-in_err-write_known-clause-adds_nothing : goal.returns-in_err-write_known-clause-adds_nothing
returns-in_err-write_known-clause-adds_nothing g c =
    let path = goal.at.returns-in_err-write_known-clause-adds_nothing g c in
    written g path.After-write_known (tried g path.After-take_ready
    (all_seen g path.After-watch c.in-Finished.upto c.in-Finished.is))

pub returns-in_err-write_known-clause-rests : goal.returns-in_err-write_known-clause-rests
returns-in_err-write_known-clause-rests g c = c.in_err-write_known.ensures.ends.1

pub give_back-requires-clause-may : goal.give_back-requires-clause-may
give_back-requires-clause-may g c =
    let stored = c.in_ok-write_known.ensures.ends.0 in
    let hand = stored.ready.hand in
    may_put_stored (view_of c.write_known.new.seated) (hand.0, hand.2.hold) stored.ready.up
    stored.stored

pub returns-clause-adds_nothing : goal.returns-clause-adds_nothing
returns-clause-adds_nothing g c =
    let path = goal.at.returns-clause-adds_nothing g c in
    adds_on c.args.seated.now c.write_known.new.seated c.give_back.new.seated
    (written g path.After-write_known (tried g path.After-take_ready
    (all_seen g path.After-watch c.in-Finished.upto c.in-Finished.is)))
    (held_else c.write_known.new.seated c.give_back.new.seated Idle
    c.give_back.ensures.same_table (ap (λ m. m.0) c.give_back.ensures.view))

pub returns-clause-rests : goal.returns-clause-rests
returns-clause-rests g c = record {
  idle = ap (λ m. m.0.writing.hold) c.give_back.ensures.view;
  empty = ap (λ m. m.1) c.give_back.ensures.view;
}

pub returns-clause-ends : goal.returns-clause-ends
returns-clause-ends g c =
    let given_back = ap (λ m. m.0) c.give_back.ensures.view in
    let wrote = c.in_ok-write_known.ensures.ends in
    let adds = adds_on c.watch.new.seated c.take_ready.new.seated c.write_known.new.seated
    c.take_ready.ensures.adds_nothing c.write_known.ensures.adds_nothing in (
      record {
        bound = c.in-Finished.upto.0;
        asked = view_of c.args.seated.now;
        since = same_pass (view_of c.args.seated.now);
        watched = view_of c.watch.new.seated;
        finished = c.watch.ensures.finished c.in-Finished.upto c.in-Finished.is;
        writing = c.write_known.new.seated;
        keeps = ((adds.works).work).pass;
        stored = wrote.0;
        written = wrote.1;
        same_table = c.give_back.ensures.same_table;
        given_back = given_back;
      },
      still_up (view_of c.write_known.new.seated) Idle (view_of c.give_back.new.seated)
          given_back wrote.0.up,
    )
