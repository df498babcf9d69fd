use Rattle.std.proofs.Common.{ap, refl, ◌∙◌}
use Rattle.machine_state.specs.Views.{Idle}
use Rattle.wal_rule.specs.SeatedPasses.{view_of}
use Rattle.wal_log.specs.Standing.{AddsNothing}
use Rattle.wal_log.proofs.AddingNothing.{as_before, held_else, went_down, works_on}
use Rattle.wal_log.proofs.FlushLaws.{told_still}
use Rattle.wal_log.proofs.InHandLaws.{may_put_stored}
use Rattle.wal_log.proofs.Keeping.{sets_down, still_up}
use Rattle.wal_log.proofs.flushing.harden.Given.{Over}
use Rattle.wal_log.proofs.flushing.harden.Goals as goal
use Rattle.wal_log.proofs.flushing.harden.Goals.{After-give_back, After-go_down}

-- ---- the disk failed

module _ (g : Over) (c : After-go_down g) where
  down : AddsNothing c.flush_in_hand.new.seated c.go_down.new.seated
  down =
      let mid = c.flush_in_hand.new.seated in
      went_down mid mid c.go_down.new.seated c.in-Err.fault.faults (as_before mid mid refl refl)
      c.in-Err.ensures.told.0.up c.go_down.ensures.same_table c.go_down.ensures.down

pub returns-in-Err-clause-told : goal.returns-in-Err-clause-told
returns-in-Err-clause-told g c = (
  (sets_down (view_of c.flush_in_hand.new.seated) (view_of c.go_down.new.seated)
      c.in-Err.fault.faults c.go_down.ensures.down).0,
  (down g (goal.at.returns-in-Err-clause-told g c).After-go_down).log ∙ c.in-Err.ensures.told.1,
)

pub returns-in-Err-clause-flushed : goal.returns-in-Err-clause-flushed
returns-in-Err-clause-flushed g c =
    (down g (goal.at.returns-in-Err-clause-flushed g c).After-go_down).flushed
    ∙ c.flush_in_hand.ensures.flushed

pub returns-in-Err-clause-works : goal.returns-in-Err-clause-works
returns-in-Err-clause-works g c =
    works_on c.args.seated.now c.flush_in_hand.new.seated c.go_down.new.seated
    c.flush_in_hand.ensures.works
    (down g (goal.at.returns-in-Err-clause-works g c).After-go_down).works

pub returns-in-Err-clause-rests : goal.returns-in-Err-clause-rests
returns-in-Err-clause-rests g c = record {
  idle = (sets_down (view_of c.flush_in_hand.new.seated) (view_of c.go_down.new.seated)
      c.in-Err.fault.faults c.go_down.ensures.down).1;
  empty = c.go_down.ensures.empty;
}

-- ---- it did not

pub give_back-requires-clause-may : goal.give_back-requires-clause-may
give_back-requires-clause-may g c =
    let stored = c.in-Ok.ensures.told.2 in
    let hand = stored.ready.hand in
    may_put_stored (view_of c.flush_in_hand.new.seated) (hand.0, hand.2.hold) stored.ready.up
    stored.stored

module _ (g : Over) (c : After-give_back g) where
  given : AddsNothing c.flush_in_hand.new.seated c.give_back.new.seated
  given = held_else c.flush_in_hand.new.seated c.give_back.new.seated Idle
      c.give_back.ensures.same_table (ap (λ m. m.0) c.give_back.ensures.view)

pub returns-in-Ok-clause-told : goal.returns-in-Ok-clause-told
returns-in-Ok-clause-told g c =
    let at = (goal.at.returns-in-Ok-clause-told g c).After-give_back in
    let stored = view_of c.flush_in_hand.new.seated in
    let new = view_of c.give_back.new.seated in
    let told = c.in-Ok.ensures.told in
    let upto = c.in-Ok.hard.upto.0 in (
      told.0,
      told_still upto upto c.in-Ok.hard.moment (view_of c.args.seated.now) stored new
          (given g at).log (given g at).works.work.pass
          (still_up stored Idle new (ap (λ m. m.0) c.give_back.ensures.view) told.1.up) told.1,
    )

pub returns-in-Ok-clause-flushed : goal.returns-in-Ok-clause-flushed
returns-in-Ok-clause-flushed g c =
    (given g (goal.at.returns-in-Ok-clause-flushed g c).After-give_back).flushed
    ∙ c.flush_in_hand.ensures.flushed

pub returns-in-Ok-clause-works : goal.returns-in-Ok-clause-works
returns-in-Ok-clause-works g c =
    works_on c.args.seated.now c.flush_in_hand.new.seated c.give_back.new.seated
    c.flush_in_hand.ensures.works
    (given g (goal.at.returns-in-Ok-clause-works g c).After-give_back).works

pub returns-in-Ok-clause-rests : goal.returns-in-Ok-clause-rests
returns-in-Ok-clause-rests g c = record {
  idle = ap (λ m. m.0.writing.hold) c.give_back.ensures.view;
  empty = ap (λ m. m.1) c.give_back.ensures.view;
}
