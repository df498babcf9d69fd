-- One try of a segment switch: the locks that it takes and gives back, and what it tells.
use Rattle.std.specs.Prelude.{Result, Ok, Err}
use Rattle.std.proofs.Common.{◌≡◌, ◌≢◌, ℕ, ◌+◌, ◌<◌, List, [], refl, sym, ap, ◌∙◌, subst, arith}
use Rattle.wal_spelling.specs.Spelling.{Assembled}
use Rattle.machine_state.specs.declared.setup.Setup.{Setup}
use Rattle.machine_state.specs.Moves.{with_working, without_work}
use Rattle.machine_state.specs.Steps.{IsResting, take_lock}
use Rattle.machine_state.specs.Views.{Landed, View, Working}
use Rattle.wal_rule.specs.declared.seated.SeatedPass.{SeatedPass}
use Rattle.wal_rule.specs.SeatedPasses.{HasView, StaysSeated, view_of}
use Rattle.wal_rule.specs.Stepping.{Meets}
use Rattle.insert_locks.specs.Holding.{lock_run}
use Rattle.insert_locks.specs.Taking.{with_lock}
use Rattle.insert_locks.specs.Watching.{with_sight}
use Rattle.insert_locks.proofs.Runs.{run_more}
use Rattle.reserve_lock.specs.declared.reserving.ReserveErr.{ReserveErr}
use Rattle.reserve_lock.specs.declared.reserving.ReserveErr.TheVariants.{Busy, Full}
use Rattle.reserve_lock.specs.declared.switching.SwitchTry.{SwitchTry}
use Rattle.reserve_lock.specs.declared.switching.SwitchTry.TheVariants as tries
use Rattle.reserve_lock.specs.Reserved.{IsPositionBusy, LeavesNoSwitch, StaysAtStart, TellsWhy, every_lock}
use Rattle.wal_log.specs.declared.switch_tries.TrySwitchErr.{TrySwitchErr}
use Rattle.wal_log.specs.declared.switch_tries.TrySwitchErr.TheVariants as tried
use Rattle.wal_log.specs.declared.switching.Switch.TheVariants.{Stayed}
use Rattle.wal_log.specs.Beginning.{TriesInVain}
use Rattle.wal_log.specs.Downs.{KnowsNoFault}
use Rattle.wal_log.specs.PassLogs.{log_of_pass}
use Rattle.wal_log.specs.Standing.{GoesOnSeated, HasLocks, KeepsPass}
use Rattle.wal_log.specs.Switching.{FindsSegmentStart, HoldsOn}
use Rattle.wal_log.specs.SwitchTries.{FindsLockTaken, FindsPositionTaken, TellsSwitchTry, TriesSwitch, switch_err_of_reserve}
use Rattle.wal_log.proofs.BeginLaws.{holds_in_vain, up_in_vain}
use Rattle.wal_log.proofs.Keeping.{both_up, meets_since, up_before}
use Rattle.wal_log.proofs.Seated.{further_seated, hand_is, has_view, seat_stays, view_is}
use Rattle.wal_log.proofs.SwitchLaws.{further_holds, no_room_found, no_room_since, place_since, room_rests, start_found, start_holds, start_rests, steps_on, switch_since}
use Rattle.wal_log.proofs.Unlocking.{rested, rested_keeps, unlocked_rests}

-- ---- the locks are taken

-- with the locks that it has, a view is as it was
holds_so : (locks : List ℕ) (v : View) → HasLocks locks v → with_working locks Landed v ≡ v
holds_so locks v has = ap (λ (w : Working). record v { working = w }) (sym has.working)

locks_keep : (locks : List ℕ) (v : View) → KeepsPass v (with_working locks Landed v)
locks_keep locks v = record {
  opening = refl;
  live = refl;
  number = refl;
  spare = refl;
  spare_end = refl;
  joined = refl;
  counts = omega arith;
  rises = omega arith;
  down = λ faults knows. knows;
}

module _ {D : Type 0} where
  pub none_taken : (a : SeatedPass D) → HasLocks [] (view_of a)
      → HasView (with_working (lock_run 0 0) Landed (view_of a)) a a
  none_taken a has = has_view refl (sym (holds_so [] (view_of a) has)) refl

  pub one_taken : (a b c : SeatedPass D) (count : ℕ)
      → HasView (with_working (lock_run 0 count) Landed (view_of a)) a b
      → HasView (with_lock count (view_of b)) b c
      → HasView (with_working (lock_run 0 (count + 1)) Landed (view_of a)) a c
  one_taken a b c count has take = has_view (take.same_table ∙ has.same_table)
      (view_is take ∙ ap (λ (v : View). with_lock count v) (view_is has)
      ∙ ap (λ (locks : List ℕ). with_working locks Landed (view_of a)) (run_more count))
      (hand_is take ∙ hand_is has)

  pub none_more : (a b c : SeatedPass D) (locks : List ℕ)
      → HasView (with_working locks Landed (view_of a)) a b → HasView (view_of b) b c
      → HasView (with_working locks Landed (view_of a)) a c
  none_more a b c locks has vain = has_view (vain.same_table ∙ has.same_table)
      (view_is vain ∙ view_is has) (hand_is vain ∙ hand_is has)

  pub has_taken : (a b : SeatedPass D) (locks : List ℕ) → HasLocks [] (view_of a)
      → HasView (with_working locks Landed (view_of a)) a b → HasLocks locks (view_of b)
  has_taken a b locks has is = subst (HasLocks locks) (sym (view_is is)) (record {
    working = refl;
    place = has.place;
    stage = has.stage;
    hold = has.hold;
  })

  pub given_back : (a b c : SeatedPass D) (locks : List ℕ) → HasLocks [] (view_of a)
      → HasView (with_working locks Landed (view_of a)) a b
      → HasView (without_work (view_of b)) b c → HasView (view_of a) a c
  given_back a b c locks has taken release = has_view (release.same_table ∙ taken.same_table)
      (view_is release ∙ ap (λ (v : View). without_work v) (view_is taken)
      ∙ holds_so [] (view_of a) has) (hand_is release ∙ hand_is taken)

  pub found_taken : (a b : SeatedPass D) (lock word : ℕ) → lock < 8 → word ≢ 0
      → HasView (with_working (lock_run 0 lock) Landed (view_of a)) a b
      → Meets (view_of b) (take_lock lock) word → FindsLockTaken lock word (view_of a)
  found_taken a b lock word low some has met = record {
    low = low;
    some = some;
    met = subst (λ (v : View). Meets v (take_lock lock) word) (view_is has) met;
  }

  -- all are
  pub all_taken : (a b c : SeatedPass D) → HoldsOn [] a b
      → HasView (with_working every_lock Landed (view_of b)) b c → HoldsOn every_lock a c
  all_taken a b c before takes = further_holds a b c [] every_lock before
      (steps_on b c (with_working every_lock Landed (view_of b)) takes
      (locks_keep every_lock (view_of b)) refl refl every_lock (record {
        working = refl;
        place = (before.has).place;
        stage = (before.has).stage;
        hold = (before.has).hold;
      }))

  pub all_up : (b c : SeatedPass D) → HasView (with_working every_lock Landed (view_of b)) b c
      → KnowsNoFault (view_of b) → KnowsNoFault (view_of c)
  all_up b c takes up =
      subst KnowsNoFault (sym (view_is takes)) (record { met = up.met; set = up.set })

  -- and are given back
  pub back_goes_on : (a b c : SeatedPass D) → StaysSeated a b
      → KeepsPass (view_of a) (view_of b) → (view_of b).async_met ≡ (view_of a).async_met
      → HasView (without_work (view_of b)) b c → GoesOnSeated a c
  back_goes_on a b c stays keeps async release = record {
    stays = further_seated a b c stays (seat_stays release);
    keeps = subst (KeepsPass (view_of a)) (sym (view_is release))
        (rested_keeps (view_of a) (view_of b) keeps);
    async = ap (λ (v : View). v.async_met) (view_is release) ∙ async;
  }

-- ---- nothing was reserved under all locks, which are given back

module _ (setup : Setup) (body : Assembled) (old between new : View)
    (has : HasLocks every_lock old) (up : KnowsNoFault old) (is : new ≡ rested between) where
  -- the log stood at a segment's start
  pub stayed_at_once : (end : ℕ) → StaysAtStart setup end old between
      → FindsSegmentStart setup end old new × IsResting new
  stayed_at_once end stays = (
    start_rests setup body old between new is end
        (start_found setup body old between end stays up),
    subst IsResting (sym is)
        (unlocked_rests every_lock between (start_holds setup body old between end stays has)),
  )

  vain_rests : (e : ReserveErr) → TellsWhy setup body old between e → IsResting new
  vain_rests e why = subst IsResting (sym is) (unlocked_rests every_lock between
      (holds_in_vain setup body old between every_lock has e why))

  vain_up : (e : ReserveErr) → TellsWhy setup body old between e → KnowsNoFault new
  vain_up e why =
      let still = up_in_vain setup body old between up e why in
      subst KnowsNoFault (sym is) (record { met = still.met; set = still.set })

  -- the position was somebody else's
  position_taken : (seen : ℕ) → IsPositionBusy seen old between
      → FindsPositionTaken seen old (rested between)
  position_taken seen busy =
      let holding = holds_so every_lock between
      (holds_in_vain setup body old between every_lock has (Busy seen) busy) in
      let before = ap (λ (v : View). with_sight (old.reserving).seen v) busy.new_is in
      subst (λ (v : View). IsPositionBusy seen (with_sight (old.reserving).seen v) v) (sym holding)
      (subst (λ (v : View). IsPositionBusy seen v between) (sym before) busy)

  pub vain_at_once : (e : ReserveErr) → TellsWhy setup body old between e → LeavesNoSwitch e
      → TellsSwitchTry setup body old new (switch_err_of_reserve e) × IsResting new
  vain_at_once (Busy seen) why few = (
    (
      subst (λ (v : View). FindsPositionTaken seen old v) (sym is) (position_taken seen why),
      record {
        up = vain_up (Busy seen) why;
        log_is = ap (λ (v : View). log_of_pass v) is ∙ ap (λ (v : View). log_of_pass v) why.new_is;
      },
    ),
    vain_rests (Busy seen) why,
  )
  vain_at_once (Full free) why few = (
    (
      room_rests setup body old between new is free
          (no_room_found setup body old between free why few),
      vain_up (Full free) why,
    ),
    vain_rests (Full free) why,
  )

-- ---- since an earlier view, which had seen just as much, and from which the pass's log is the same

module _ (setup : Setup) (body : Assembled) (old between new : View)
    (keeps : KeepsPass old between) (same : log_of_pass between ≡ log_of_pass old)
    (up : KnowsNoFault between) (sight : (between.reserving).seen ≡ (old.reserving).seen) where
  vain_since : TriesInVain between new → TriesInVain old new
  vain_since vain = record { up = vain.up; log_is = vain.log_is ∙ same }

  told_since : (e : TrySwitchErr) → TellsSwitchTry setup body between new e
      → TellsSwitchTry setup body old new e
  told_since (tried.Busy seen) told = (
    subst (λ (n : ℕ). IsPositionBusy seen (with_working every_lock Landed (with_sight n new))
        (with_working every_lock Landed new)) sight told.0,
    vain_since told.1,
  )
  told_since (tried.Taken lock word) told = (told.0, vain_since told.1)
  told_since (tried.Full free) told =
      (no_room_since setup body old between new keeps same up free told.0, told.1)
  told_since (tried.Down faults) told = (
    meets_since old between new faults (both_up old between (up_before old between keeps up) up)
        told.0,
    told.1 ∙ same,
  )

  pub tries_since : (r : Result SwitchTry TrySwitchErr) → TriesSwitch setup body between r new
      → TriesSwitch setup body old r new
  tries_since (Ok (tries.Switched r)) told =
      place_since setup body old between new keeps same up (Ok (tries.Switched r)) told
  tries_since (Ok (tries.Stayed end)) told =
      (switch_since setup body old between new keeps same up (Ok (Stayed end)) told.0, told.1)
  tries_since (Err e) told = (told_since e told.0, told.1)
