use Rattle.std.proofs.Common.{Err, [], ◌∷◌, refl, sym, ap, ◌∙◌, subst, arith}
use Rattle.machine_state.specs.Views.{View}
use Rattle.wal_rule.specs.SeatedPasses.{setup_of, view_of}
use Rattle.reserve_lock.specs.Reserved.{TellsWhy}
use Rattle.reserve_lock.specs.declared.reserving.ReserveErr.{ReserveErr}
use Rattle.wal_log.specs.declared.beginning.TryErr.{TryErr}
use Rattle.wal_log.specs.Beginning.{AnswersBeginTry}
use Rattle.wal_log.specs.Standing.{HasLocks}
use Rattle.wal_log.proofs.BeginLaws.{begun_is, between_holds, place_keeps, tried_in_vain, vain_async, vain_keeps}
use Rattle.wal_log.proofs.Seated.{further_seated, seat_stays, view_is}
use Rattle.wal_log.proofs.Unlocking.{locks_held, none_flies}
use Rattle.wal_log.proofs.beginning.reserve_under.Given.{Over}
use Rattle.wal_log.proofs.beginning.reserve_under.Goals as goal
use Rattle.wal_log.proofs.beginning.reserve_under.Goals.{After-try_reserve_place}

module _ (g : Over) (c : After-try_reserve_place g) where
  still_holds : (e : ReserveErr) → TellsWhy (setup_of c.args.seated.now) c.args.body.now
      (view_of c.args.seated.now) (view_of c.try_reserve_place.new.seated) e
      → HasLocks (c.args.lock.0 ∷ []) (view_of c.try_reserve_place.new.seated)
  still_holds = between_holds (setup_of c.args.seated.now) c.args.body.now
      (view_of c.args.seated.now) (view_of c.try_reserve_place.new.seated) c.args.lock.0
      c.requires.holds.has

pub try_reserve_place-requires-clause-holds : goal.try_reserve_place-requires-clause-holds
try_reserve_place-requires-clause-holds g c = (c.args.lock.0, c.requires.holds.has.working)

pub release-requires-clause-lock : goal.release-requires-clause-lock
release-requires-clause-lock g c = c.requires.holds.are c.args.lock.0 (0, omega arith, refl)

pub release-requires-clause-holds : goal.release-requires-clause-holds
release-requires-clause-holds g c =
    locks_held (c.args.lock.0 ∷ []) (view_of c.try_reserve_place.new.seated)
    (still_holds g (goal.at.release-requires-clause-holds g c).After-try_reserve_place c.in-Err.e
    c.in-Err.ensures.why)

pub release-requires-clause-left : goal.release-requires-clause-left
release-requires-clause-left g c =
    none_flies (c.args.lock.0 ∷ []) (view_of c.try_reserve_place.new.seated)
    (still_holds g (goal.at.release-requires-clause-left g c).After-try_reserve_place c.in-Err.e
    c.in-Err.ensures.why)

pub returns-in-Ok-clause-begins : goal.returns-in-Ok-clause-begins
returns-in-Ok-clause-begins g c =
    begun_is (setup_of c.args.seated.now) c.args.body.now (view_of c.args.seated.now)
    (view_of c.try_reserve_place.new.seated) c.args.lock _ _ _
    (c.in-Ok.ensures.reserved c.args.lock.0 c.requires.holds.has.working) c.in-Ok.ensures.end
    (c.requires.holds.are c.args.lock.0 (0, omega arith, refl))
    c.requires.holds.has c.requires.up

pub returns-in-Ok-clause-sets_none : goal.returns-in-Ok-clause-sets_none
returns-in-Ok-clause-sets_none g c = ap (λ (v : View). v.writing.down_set)
    (c.in-Ok.ensures.reserved c.args.lock.0 c.requires.holds.has.working).place.reserved.new_is

pub returns-in-Ok-clause-goes_on : goal.returns-in-Ok-clause-goes_on
returns-in-Ok-clause-goes_on g c = record {
  stays = c.try_reserve_place.ensures.stays;
  keeps = place_keeps (setup_of c.args.seated.now) c.args.body.now (view_of c.args.seated.now)
      (view_of c.try_reserve_place.new.seated) (c.args.lock.0 ∷ []) _ _
      (c.in-Ok.ensures.reserved c.args.lock.0 c.requires.holds.has.working).place;
  async = ap (λ (v : View). v.async_met)
      (c.in-Ok.ensures.reserved c.args.lock.0 c.requires.holds.has.working).place.reserved.new_is;
}

pub returns-in-Err-clause-begins : goal.returns-in-Err-clause-begins
returns-in-Err-clause-begins g c =
    subst (λ (t : TryErr). AnswersBeginTry (setup_of c.args.seated.now) c.args.body.now
    (view_of c.args.seated.now) (Err t) (view_of c.release.new.seated))
    (sym c.from.ensures)
    (tried_in_vain (setup_of c.args.seated.now) c.args.body.now (view_of c.args.seated.now)
    (view_of c.try_reserve_place.new.seated) c.args.lock.0 c.requires.holds.has c.in-Err.e
    c.in-Err.ensures.why (view_of c.release.new.seated) (view_is c.release.ensures.view)
    c.requires.up)

pub returns-in-Err-clause-goes_on : goal.returns-in-Err-clause-goes_on
returns-in-Err-clause-goes_on g c = record {
  stays = further_seated c.args.seated.now c.try_reserve_place.new.seated c.release.new.seated
      c.try_reserve_place.ensures.stays (seat_stays c.release.ensures.view);
  keeps = vain_keeps (setup_of c.args.seated.now) c.args.body.now (view_of c.args.seated.now)
      (view_of c.try_reserve_place.new.seated) c.args.lock.0 c.requires.holds.has c.in-Err.e
      c.in-Err.ensures.why (view_of c.release.new.seated) (view_is c.release.ensures.view);
  async = ap (λ (v : View). v.async_met) (view_is c.release.ensures.view)
      ∙ vain_async (setup_of c.args.seated.now) c.args.body.now (view_of c.args.seated.now)
      (view_of c.try_reserve_place.new.seated) c.in-Err.e c.in-Err.ensures.why;
}
